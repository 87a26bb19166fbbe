-- What is answered of files, by their schema in one piece and its grammar.
use Rattle.std.proofs.Common.{ℕ, inr, List, Option, Some, None, Result, Ok, Err}
use Rattle.nx_base.specs.declared.cause.Cause.{Cause}
use Rattle.nx_base.specs.declared.cause.Cause.TheVariants as cause
use Rattle.nx_host.specs.Files.{FileMap}
use Rattle.rng_core.specs.declared.grammar.Grammar.{Grammar}
use Rattle.rng_core.specs.Meaning.{pattern_of, definitions_of}
use Rattle.rng_simplify.specs.declared.compose.Whole.{Whole}
use Rattle.rng_simplify.specs.declared.fault.SchemaFault.{SchemaFault}
use Rattle.rng_simplify.specs.declared.fault.SchemaFault.TheVariants as fault
use Rattle.rng_simplify.specs.Refusals.{cells_of}
use Rattle.rng_simplify.specs.Broken.{PieceIsBroken, IsBroken}
use Rattle.rng_simplify.specs.Cells.{Cell}
use Rattle.rng_simplify.specs.Composition.{IsOnePiece, GivesWhole}
use Rattle.rng_simplify.specs.Grammars.{IsGrammarOf, IsBrokenSchema, GivesGrammar}
use Rattle.rng_simplify.specs.Simplified.{Simplifies, IfTold, Answers}
use Rattle.rng_simplify.proofs.Causes.{schema_cause}

-- where the one piece is broken, so are the files
pub piece_broken : (files : FileMap) (uri : List ℕ) (why : Cause) → PieceIsBroken files uri why → IsBroken files uri why
piece_broken files uri cause.BadEscape h = absurd h.broken
piece_broken files uri cause.BadLiteral h = absurd h.broken
piece_broken files uri cause.BadCharacter h = absurd h.broken
piece_broken files uri cause.Syntax h = absurd h.broken
piece_broken files uri cause.TooDeep h = absurd h.broken
piece_broken files uri cause.UndeclaredPrefix h = absurd h.broken
piece_broken files uri cause.Twice h = absurd h.broken
piece_broken files uri cause.BadMarkup h = absurd h.broken
piece_broken files uri cause.BadForm h = absurd h.broken
piece_broken files uri cause.NotGrammar h = absurd h.broken
piece_broken files uri cause.IncludeLoop h = absurd h.broken
piece_broken files uri cause.NoDefinition h = inr h
piece_broken files uri why h = h

module _ (uri : List ℕ) (cells : List Cell) (root : ℕ) where
  simplified_if : (told : Option FileMap) → IfTold told (λ files. (number : ℕ → ℕ) → IsOnePiece files uri number cells root) →
      (grammar : Grammar) → IsGrammarOf cells root grammar →
      IfTold told (λ files. Simplifies files uri (pattern_of grammar.start) (definitions_of grammar))
  simplified_if None one_piece grammar h = tt
  simplified_if (Some files) one_piece grammar h =
      let one = one_piece h.number in
      let s = h.simplified one.whole one.denotes in
      record {
        whole = one.whole;
        composed = one.composed;
        unbroken = s.unbroken;
        start_form = s.start_form;
        definition_forms = s.definition_forms;
        form = s.form;
        start_is = s.start_is;
        definitions_are = s.definitions_are;
      }

  broken_if : (told : Option FileMap) → IfTold told (λ files. (number : ℕ → ℕ) → IsOnePiece files uri number cells root) → (why : Cause) →
      IsBrokenSchema cells root why → IfTold told (λ files. IsBroken files uri why)
  broken_if None one_piece why h = tt
  broken_if (Some files) one_piece why h =
      let one = one_piece h.number in
      piece_broken files uri why (record { whole = one.whole; composed = one.composed; broken = h.broken one.whole one.denotes })

-- the grammar of the files is that of their schema in one piece
pub answers_so : (told : Option FileMap) (uri : List ℕ) (before after : ℕ) (whole : Whole) (result : Result Grammar SchemaFault) →
    GivesWhole told uri before after (Ok whole) → GivesGrammar (cells_of whole) whole.root result → Answers told uri before after result
answers_so told uri before after whole (Ok grammar) one h =
    (simplified_if uri (cells_of whole) whole.root told one.2 grammar h, h.sound, one.3)
answers_so told uri before after whole (Err (fault.Unreadable why)) one h =
    (schema_cause one.0 why h, broken_if uri (cells_of whole) whole.root told one.2 why h, one.3)
answers_so told uri before after whole (Err fault.NoMemory) one h = one.3
answers_so told uri before after whole (Err fault.Failed) one h = absurd h
answers_so told uri before after whole (Err (fault.Absent a)) one h = absurd h
answers_so told uri before after whole (Err (fault.NotUtf8 a at)) one h = absurd h
answers_so told uri before after whole (Err (fault.BadUri a)) one h = absurd h
