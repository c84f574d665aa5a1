use Rattle.transcript_text.specs.reader.Laws.{ReadsRecordsBack}
use Rattle.transcript_text.proofs.read_back.ExactLemmas.{reads-records-back}
use Rattle.transcript_text.proofs.read_back.RecordLemmas.{matches-are-read-back}
use Rattle.transcript_text.proofs.laws.a_full_text_is_read_back.Goals as goal

pub returns : goal.returns
returns c =
    let records : ReadsRecordsBack = reads-records-back c.reading_is_the_inverse_of_writing.ensures.exactly c.a_full_text_is_that_of_its_parts.ensures in
    record {
      records = records;
      matches = matches-are-read-back records c.a_verdict_is_stated.ensures c.a_record_is_of_its_provers.ensures.provers
          c.a_match_has_few_disputes_and_rounds.ensures.disputes c.a_match_has_few_disputes_and_rounds.ensures.rounds;
    }
