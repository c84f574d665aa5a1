pub mod RunLemmas
pub mod BytesLemmas
pub mod BlockLemmas
pub mod SumLemmas
pub mod Adler32Lemmas
pub mod Adler32FileLemmas
pub mod ExampleLemmas
