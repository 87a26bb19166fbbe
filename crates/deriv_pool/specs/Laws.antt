-- What later matchers keep.
use Rattle.std.specs.Prelude.{ℕ, List, []}
use Rattle.std.proofs.Common.{refl, ap, ◌∙◌, arith}
use Rattle.nx_base.specs.Rules.{LaterLaws}
use Rattle.rng_core.specs.Patterns.{not_allowed}
use Rattle.rng_kept.specs.Residuals.{document, Residual}
use Rattle.rng_live.specs.Calls.{Call, KeepsMemory}
use Rattle.deriv_memory.specs.declared.asked.Asked.{Asked}
use Rattle.deriv_memory.specs.declared.asked.Asked.TheVariants as calls
use Rattle.deriv_memory.specs.Remembered.{Remembered, IsText, TextsGrow}
use Rattle.rng_live.specs.Schemas.{schema_language}
use Rattle.deriv_states.specs.Places.{Places, LaterPlaces, IsState as IsNumber}
use Rattle.deriv_states.specs.Tables.{Grows}
use Rattle.deriv_pool.specs.Later.{IsLater, IsStateOf, meaning_of, language_in, remembers_in}
use Rattle.deriv_pool.specs.Remembering.{Asks, KeepsNoted}

grows_on : {M : Type 0} (none : M) (a b c : List M) → Grows none a b → Grows none b c → Grows none a c
grows_on none a b c one other = record {
  grows = omega (arith, one.grows, other.grows);
  stays = λ i here. other.stays i (omega (arith, here, one.grows)) ∙ one.stays i here;
}

pub later_same : (p : Places) → LaterPlaces p p
later_same p = record {
  patterns = record { grows = omega arith; stays = λ i here. refl };
  outers = record { grows = omega arith; stays = λ i here. refl };
  states = record { grows = omega arith; stays = λ i here. refl };
  contents = refl;
}

pub later_on : (a b c : Places) → LaterPlaces a b → LaterPlaces b c → LaterPlaces a c
later_on a b c one other = record {
  patterns = record {
    grows = omega (arith, one.patterns.grows, other.patterns.grows);
    stays = λ i here. other.patterns.stays i (omega (arith, here, one.patterns.grows)) ∙ one.patterns.stays i here;
  };
  outers = grows_on (document not_allowed) a.outers b.outers c.outers one.outers other.outers;
  states = grows_on [] a.states b.states c.states one.states other.states;
  contents = other.contents ∙ one.contents;
}

-- ---- what is remembered

text_stays : (old new : List (List ℕ)) (text : List ℕ) (i : ℕ) → TextsGrow old new → IsText old text i → IsText new text i
text_stays old new text i grown is =
    record { there = omega (arith, is.there, grown.grows); meaning = grown.stays i is.there ∙ is.meaning }

number_stays : (old new : Places) (s : ℕ) (x : Residual) → LaterPlaces old new → IsNumber old x s → IsNumber new x s
number_stays old new s x later is =
    record { there = omega (arith, is.there, later.states.grows); meaning = later.states.stays s is.there ∙ is.meaning }

asks_stays : (old new : Places) (before after : List (List ℕ)) (call : Asked) (x : Residual) (told : Call) → LaterPlaces old new
    → TextsGrow before after → Asks old before call x told → Asks new after call x told
asks_stays old new before after (calls.Enter s ns local) x told later grown asks =
    let name = asks.1.0 in (
      number_stays old new s x later asks.0,
      (
        name,
        (
          asks.1.1.0,
          record {
            ns = text_stays before after name.ns ns grown asks.1.1.1.ns;
            local = text_stays before after name.local local grown asks.1.1.1.local;
          },
        ),
      ),
    )
asks_stays old new before after (calls.TagEnd s) x told later grown asks = (number_stays old new s x later asks.0, asks.1)
asks_stays old new before after (calls.Leave s) x told later grown asks = (number_stays old new s x later asks.0, asks.1)
asks_stays old new before after (calls.Blank s) x told later grown asks = absurd asks
asks_stays old new before after (calls.Solid s) x told later grown asks = absurd asks
asks_stays old new before after (calls.BlankValue s ns local) x told later grown asks = absurd asks
asks_stays old new before after (calls.SolidValue s ns local) x told later grown asks = absurd asks

keeps_same : (m : Remembered) → KeepsNoted m m
keeps_same m = record { texts = record { grows = omega arith; stays = λ i here. refl }; calls = λ call some. some }

keeps_on : (a b c : Remembered) → KeepsNoted a b → KeepsNoted b c → KeepsNoted a c
keeps_on a b c one other = record {
  texts = record {
    grows = omega (arith, one.texts.grows, other.texts.grows);
    stays = λ i here. other.texts.stays i (omega (arith, here, one.texts.grows)) ∙ one.texts.stays i here;
  };
  calls = λ call some. other.calls call (one.calls call some);
}

-- what is remembered is remembered later
pub pool_memory : KeepsMemory IsLater remembers_in
pool_memory = λ m l x told later kept. record {
  asked = kept.asked;
  asks = asks_stays m.states l.states m.memory.texts l.memory.texts kept.asked x told later.states later.memory.texts kept.asks;
  kept = later.memory.calls kept.asked kept.kept;
}

-- ---- what later matchers keep

pub pool_laws : LaterLaws IsLater IsStateOf meaning_of language_in
pool_laws = record {
  same = λ m. record { schema = refl; states = later_same m.states; memory = keeps_same m.memory };
  chain = λ m l k now then. record {
    schema = then.schema ∙ now.schema;
    states = later_on m.states l.states k.states now.states then.states;
    memory = keeps_on m.memory l.memory k.memory now.memory then.memory;
  };
  state = λ m l s later state. omega (arith, later.states.states.grows, state);
  meaning = λ m l s later state. later.states.states.stays s.number state;
  rule = λ m l later. ap schema_language later.schema;
}
