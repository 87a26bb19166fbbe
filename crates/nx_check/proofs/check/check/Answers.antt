use Rattle.std.proofs.Common.{refl, inl, inr}
use Rattle.nx_check.specs.Words.{asked_of_call}
use Rattle.nx_check.proofs.Asking.{asks_for, asks_nothing}
use Rattle.nx_check.proofs.check.check.Goals as goal

pub returns-in-Ok-None : goal.returns-in-Ok-None
returns-in-Ok-None g c =
    inr (inl (record {
      words_are_wrong = λ asked asks. (rw c.in-Ok-None.field-0-is at c.in-Ok-None.ensures) asks.utf8;
      files_stay = refl;
      said = rw c.as_bytes.ensures.value at c.write_line.ensures;
    }))

pub returns-in-Ok-None-read_words : goal.returns-in-Ok-None-read_words
returns-in-Ok-None-read_words g c =
    let read = rw c.in-Ok-Some.field-0-is at c.in-Ok-Some.ensures in
    inr (inl (record {
      words_are_wrong = asks_nothing c.args.words.now c.in-Ok-Some.texts.items c.as_slice.result.now c.as_slice.ensures.value read.0
          (rw c.in-Ok-None-read_words.field-0-is at c.in-Ok-None-read_words.ensures);
      files_stay = refl;
      said = rw c.as_bytes-in-Ok-None-read_words.ensures.value at c.write_line-in-Ok-None-read_words.ensures;
    }))

pub returns : goal.returns
returns g c =
    let read = rw c.in-Ok-Some.field-0-is at c.in-Ok-Some.ensures in
    let asked = rw c.in-Ok-Some-read_words.field-0-is at c.in-Ok-Some-read_words.ensures in
    inl (record {
      asked = asked_of_call c.in-Ok-Some-read_words.call;
      asks = asks_for c.args.words.now c.in-Ok-Some.texts.items c.as_slice.result.now _ c.as_slice.ensures.value read.0 read.1 asked.0 asked.1;
      checks = rw c.as_slice-2.ensures at c.check_call.ensures;
    })
