-- What is kept of reading a text, and what is found in it.
use Rattle.std.proofs.Common.{◌≡◌, ℕ, zero, suc, ◌+◌, ◌-◌, List, length, Option, Some, None, option_map, Result, Ok, Err, refl, sym, ap, subst, ◌∙◌, arith, inl, inr}
use Rattle.std.specs.List.{AllByRecursion}
use Rattle.std.specs.Prelude.{IfSome, OnOk}
use Rattle.std.specs.Str.{IsUtf8}
use Rattle.std.proofs.lemmas.Bool.{cases_lt, le-leb, lt-leb}
use Rattle.std.proofs.lemmas.Str.{IsCharBoundary-start, IsUtf8-between}
use Rattle.deriv_pool.specs.Later as pool
use Rattle.deriv_pool.specs.declared.pool.Pool.{Pool}
use Rattle.nx_base.specs.Rules.{Rules}
use Rattle.nx_base.specs.Running.{machine_faults}
use Rattle.nx_base.specs.Text.{IsPlace}
use Rattle.nx_base.specs.Tokens.{IsOfKind, cut, end_of, tokens_within, tokens_of}
use Rattle.nx_base.specs.declared.fault.Fault.{Fault}
use Rattle.nx_base.specs.declared.token.Token.{Token}
use Rattle.nx_scan.proofs.Every.{cut-is_token}
use Rattle.nx_scan.proofs.OwnBytes.{cut-own}
use Rattle.nx_events.specs.Items.{items_of_text}
use Rattle.nx_events.specs.Texts.{ItemsAreText}
use Rattle.nx_events.proofs.TextItems.{all_text}
use Rattle.nx_marks.specs.Bound.{WillReach}
use Rattle.nx_marks.specs.Chain.{Kept}
use Rattle.nx_marks.specs.Keeping.{KeepsMarks}
use Rattle.nx_marks.specs.Meant.{is_any, itself}
use Rattle.nx_marks.specs.Right.{IsRight}
use Rattle.nx_marks.specs.Starting.{started}
use Rattle.nx_recover.specs.Faults.{AreFaultsOf}
use Rattle.nx_recover.specs.Machine.{later_by}
use Rattle.nx_recover.specs.RecoverRules.{Recovered, recover_rules}
use Rattle.nx_recover.specs.declared.state.RecoverState.{RecoverState}
use Rattle.nx_recovery.proofs.Along.{recover_gives_faults}
use Rattle.nx_recovery.proofs.Details.{faults_are_text}
use Rattle.nx_session.specs.Reading.{grammar_of, followed, rules_for}
use Rattle.rng_core.specs.Meaning.{language_of}
use Rattle.rng_core.specs.Patterns.{Language}
use Rattle.rng_core.specs.Soundness.{IsSound}
use Rattle.rng_core.specs.declared.grammar.Grammar.{Grammar}
use Rattle.rng_kept.specs.Live.{IsLive}

-- ---- reading leaves the schema

-- a machine is later than another where their matchers are
abbrev pub IsLater : Option Pool → Option Pool → Type 0
IsLater old new = later_by pool.IsLater old new

pub later_grammar : (old new : Option Pool) → IsLater old new → grammar_of new ≡ grammar_of old
later_grammar None None h = refl
later_grammar (Some a) (Some b) h = ap (λ s. Some s.grammar) h.schema
later_grammar None (Some b) h = absurd h
later_grammar (Some a) None h = absurd h

later_followed : (old new : Option Pool) → IsLater old new → followed new ≡ followed old
later_followed None None h = refl
later_followed (Some a) (Some b) h = ap (λ s. Some (language_of s.grammar)) h.schema
later_followed None (Some b) h = absurd h
later_followed (Some a) None h = absurd h

pub later_live : (old new : Option Pool) → IsLater old new → IfSome (followed old) IsLive → IfSome (followed new) IsLive
later_live old new h live =
    let P : Option Language → Type 0 = λ o. IfSome o IsLive in
    subst P (sym (later_followed old new h)) live

pub later_sound : (old new : Option Pool) → IsLater old new → IfSome (grammar_of old) IsSound → IfSome (grammar_of new) IsSound
later_sound old new h sound =
    let P : Option Grammar → Type 0 = λ o. IfSome o IsSound in
    subst P (sym (later_grammar old new h)) sound

-- ---- the rules of reading

pub schema_followed : (matcher : Option Pool) → followed matcher ≡ option_map language_of (grammar_of matcher)
schema_followed None = refl
schema_followed (Some matcher) = refl

-- the machine's rules are those of its grammar
pub same_rules : (matcher : Option Pool) → recover_rules (followed matcher) ≡ rules_for (grammar_of matcher)
same_rules matcher = ap recover_rules (schema_followed matcher)

-- the marks of a machine that has begun
pub begun_marks : (old new : Option Pool) (marks : Kept Recovered) → IsLater old new → marks ≡ started (recover_rules (followed new)).first
    → marks ≡ started (rules_for (grammar_of old)).first
begun_marks old new marks later is =
    let first : Rules Recovered → Kept Recovered = λ r. started r.first in
    is ∙ ap first (same_rules new ∙ ap rules_for (later_grammar old new later))

-- what reading on does, by the rules of the grammar
pub reads_marks : (matcher : Option Pool) (text : List ℕ) (old new : Kept Recovered) → KeepsMarks itself (recover_rules (followed matcher)) text old new
    → KeepsMarks itself (rules_for (grammar_of matcher)) text old new
reads_marks matcher text old new keeps =
    let P : Rules Recovered → Type 0 = λ r. KeepsMarks itself r text old new in
    subst P (same_rules matcher) keeps

pub will_reach : (matcher : Option Pool) (text : List ℕ) (count end : ℕ) (marks : Kept Recovered) → WillReach itself (rules_for (grammar_of matcher)) text count end marks
    → WillReach itself (recover_rules (followed matcher)) text count end marks
will_reach matcher text count end marks will =
    let P : Rules Recovered → Type 0 = λ r. WillReach itself r text count end marks in
    subst P (sym (same_rules matcher)) will

pub marks_right : (matcher : Option Pool) (text : List ℕ) (marks : Kept Recovered) → IsRight is_any itself (recover_rules (followed matcher)) text marks
    → IsRight is_any itself (rules_for (grammar_of matcher)) text marks
marks_right matcher text marks right =
    let P : Rules Recovered → Type 0 = λ r. IsRight is_any itself r text marks in
    subst P (same_rules matcher) right

pub on_ok : {A E P Q : Type 0} (r : Result A E) → (P → Q) → OnOk r P → OnOk r Q
on_ok (Ok a) f h = f h
on_ok (Err e) f h = tt

-- ---- the machine finds the faults of the text

pub are_faults : (text : List ℕ) (matcher : Option Pool) (faults : List Fault) → IsUtf8 text → IfSome (followed matcher) IsLive
    → faults ≡ machine_faults (recover_rules (followed matcher)) text → AreFaultsOf (option_map language_of (grammar_of matcher)) text faults
are_faults text matcher faults utf8 live found =
    let P : List Fault → Type 0 = λ all. AreFaultsOf (followed matcher) text all in
    let Q : Option Language → Type 0 = λ o. AreFaultsOf o text faults in
    subst Q (schema_followed matcher) (subst P (sym found) (recover_gives_faults (followed matcher) text live utf8))

pub details_text : (text : List ℕ) (matcher : Option Pool) (faults : List Fault) → IsUtf8 text → IfSome (followed matcher) IsLive
    → faults ≡ machine_faults (recover_rules (followed matcher)) text → AllByRecursion (λ (fault : Fault). IsUtf8 fault.detail) faults
details_text text matcher faults utf8 live found =
    let P : List Fault → Type 0 = λ all. AreFaultsOf (followed matcher) text all in
    faults_are_text (followed matcher) text faults live utf8 (subst P (sym found) (recover_gives_faults (followed matcher) text live utf8))

-- ---- what a text gives is text

-- the tokens of a text are text, and of their kind
abbrev TokensAreText : List Token → Type 0
TokensAreText all = AllByRecursion (λ (token : Token). IsUtf8 token.bytes × IsOfKind token) all

tokens_text : (n : ℕ) (text : List ℕ) (at : ℕ) → IsUtf8 text → IsPlace text at → TokensAreText (tokens_within n text at)
unfolding tokens_within
tokens_text zero text at utf8 place = tt
tokens_text (suc n) text at utf8 place = elim (cases_lt at (length text)) [
  | inl within ↦
      let here = cut-is_token text at utf8 place within in
      let same : end_of (cut text at) ≡ at + length (cut text at).bytes = ap (λ m. m + length (cut text at).bytes) here.from in
      let Q : ℕ → Type 0 = λ m. IsPlace text m in
      let bytes : IsUtf8 (cut text at).bytes = subst IsUtf8 (sym here.bytes) (IsUtf8-between text at (end_of (cut text at)) utf8 (omega arith) place here.border) in
      rw (lt-leb (length text) at within) ((bytes, cut-own text at utf8 place within), tokens_text n text (at + length (cut text at).bytes) utf8 (subst Q same here.border))
  | inr past ↦ rw (le-leb (length text) at past) tt
]

pub texts_give_text : (text : List ℕ) → IsUtf8 text → ItemsAreText (items_of_text text)
texts_give_text text utf8 = all_text (tokens_of text) (length text) (tokens_text (length text - 0) text 0 utf8 (IsCharBoundary-start text utf8))
