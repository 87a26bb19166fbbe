-- The command that asks what may stand at a place.
use Rattle.std.specs.Prelude.{◌≡◌, ℕ, ◌<◌, List, length, Option, IfSome}
use Rattle.nx_base.specs.Text.{IsPlace}
use Rattle.nx_base.specs.declared.offer.Offers.{Offers}
use Rattle.nx_complete.specs.Exact.{ExactOffers}
use Rattle.nx_recover.specs.Offers.{OffersOf}
use Rattle.nx_script.specs.declared.reply.Reply.{Reply}
use Rattle.nx_script.specs.declared.reply.Reply.TheVariants.{Offered, Refused}
use Rattle.nx_script.specs.declared.reply.Refusal.TheVariants.{BadPosition, NoMemory}
use Rattle.nx_session.specs.Editor.{EditorState, schema_of}
use Rattle.rng_core.specs.Patterns.{Language}

-- the answer is what may stand at the place, against the schema or without one; and where a schema is held and nothing in front of the
-- place has a fault, the names in it are exactly those with which some list of further events completes a valid document, and an end
-- stands in it exactly where such a list completes one
pub record AreOffersAt (schema : Option Language) (text : List ℕ) (at : ℕ) (answer : Offers) : Type 0 where
  pub offers : OffersOf schema text at answer
  pub exact : 0 < at → IfSome schema (λ g. ExactOffers g text at answer)

-- what may stand at the place is the reply, whatever came before. How many tokens are cut for that isn't said
abbrev pub CompleteStep : ℕ → EditorState → Reply → EditorState → Type 0
CompleteStep at old (Offered answer) new = IsPlace old.text at × AreOffersAt (schema_of old) old.text at answer × (new ≡ old)
CompleteStep at old (Refused (BadPosition wrong len)) new =
    ¬ (IsPlace old.text at) × (wrong ≡ at) × (len ≡ length old.text) × (new ≡ old)
CompleteStep at old (Refused NoMemory) new = IsPlace old.text at × (new ≡ old)
CompleteStep at old reply new = ⊥
