-- Worked rows, computed by the definitions.
use Rattle.std.proofs.Common.{◌≡◌, [], ◌∷◌, refl, Ok, Err}
use Rattle.std.specs.Prelude.{codes}
use Rattle.rv_text.specs.Rows.{row_named}
use Rattle.rv_text.specs.Faults.{fault}
use Rattle.rv_text.specs.Lines.{word_in}
use Rattle.rv_text.specs.Operands.{hex_digits}
use Rattle.rv_text.specs.Spelling.{spelling_of}
use Rattle.rv_text.specs.Listing.{listing}
use Rattle.rv_decode.specs.Word.{word_of}
use Rattle.rv_decode.specs.Reading.{reading_of}
use Rattle.rv_text.specs.Assembly.{assembled}
use Rattle.rv_text.specs.declared.fault.FaultKind.TheVariants.{OtherForm, UnknownMnemonic, NoRegister, OutOfRange, Undefined, DefinedTwice}

pub a_loop : assembled (codes "loop: addi x6, x6, -1\nbne x6, x0, loop") ≡ Ok (0xfff30313 ∷ 0xfe031ee3 ∷ [])
unfolding assembled word_in row_named
a_loop = refl

pub every_form : assembled (codes "add x1, x2, x3\naddi x1,x2,0x7fF\n slli x1, x2, 31\nlw\tx1, -2048 ( x2 ) # load\nsw x1, 4(x2)\njal x0, 8\nlui x31, 1048575\nfence\n.word 0xffff8f8f\nend:") ≡ Ok (0x003100b3 ∷ 0x7ff10093 ∷ 0x01f11093 ∷ 0x80012083 ∷ 0x00112223 ∷ 0x0080006f ∷ 0xffffffb7 ∷ 0x0ff0000f ∷ 0xffff8f8f ∷ [])
unfolding assembled word_in row_named
every_form = refl

pub no_such_register : assembled (codes "addi x32, x0, 1") ≡ Err (fault 1 NoRegister)
unfolding assembled word_in row_named
no_such_register = refl

pub too_large : assembled (codes "addi x1, x0, 2048") ≡ Err (fault 1 OutOfRange)
unfolding assembled word_in row_named
too_large = refl

pub nowhere : assembled (codes "beq x0, x0, nowhere") ≡ Err (fault 1 Undefined)
unfolding assembled word_in row_named
nowhere = refl

pub twice : assembled (codes "a: \n a : add x1 , x2,x3 # twice\n foo ?") ≡ Err (fault 2 DefinedTwice)
unfolding assembled word_in row_named
twice = refl

pub unknown : assembled (codes "foo ?\nbeq x0, x0, nowhere") ≡ Err (fault 1 UnknownMnemonic)
unfolding assembled word_in row_named
unknown = refl

pub form_first : assembled (codes "addi x32, x0") ≡ Err (fault 1 OtherForm)
unfolding assembled word_in row_named
form_first = refl

pub register_before_range : assembled (codes "lw x1, 5000(x32)") ≡ Err (fault 1 NoRegister)
unfolding assembled word_in row_named
register_before_range = refl

pub fences : listing (0xffff8f8f ∷ 0x0ff0000f ∷ []) ≡ codes ".word 0xffff8f8f\nfence\n"
unfolding reading_of spelling_of word_of hex_digits
fences = refl
