-- Comments and processing instructions as XML 1.0 has them (2.5 [15], 2.6 [16] and [17]; Namespaces in XML 1.0, section 7).
use Rattle.std.specs.Prelude.{◌≡◌, ◌⊎◌, ◌↔◌, ℕ, true, false, ◌==◌, List, ◌++◌, codes, slice_index}
use Rattle.std.specs.List.{AllByRecursion}
use Rattle.std.specs.Str.{IsUtf8, str_eq_ignore_ascii_case}
use Rattle.nx_base.specs.Characters.{is_space}
use Rattle.nx_events.specs.Markup.{is_bad_comment, is_bad_pi}
use Rattle.nx_events.specs.StringsRead.{Begins}
use Rattle.nx_events.specs.SpelledTags.{IsName}

-- what a comment may not have: `--`, or `-` at its end
abbrev pub HasTwoHyphens : List ℕ → Type 0
HasTwoHyphens content = (front back : List ℕ) × (content ≡ front ++ (codes "--" ++ back))

abbrev pub EndsWithHyphen : List ℕ → Type 0
EndsWithHyphen content = (front : List ℕ) × (content ≡ front ++ codes "-")

abbrev pub CommentsAreJudged : Type 0
CommentsAreJudged = (content : List ℕ) →
    (is_bad_comment (codes "<!--" ++ (content ++ codes "-->")) ≡ true) ↔ (HasTwoHyphens content ⊎ EndsWithHyphen content)

-- a target in front of this rest: a Name without a colon (58) that isn't `xml` in any case, and white space or the closing `?>` behind it
pub record IsTarget (target rest : List ℕ) : Type 0 where
  pub is_name : IsName target
  pub no_colon : AllByRecursion (λ (b : ℕ). (b == 58) ≡ false) target
  pub no_xml : str_eq_ignore_ascii_case target (codes "xml") ≡ false
  pub ends : (is_space (slice_index rest 0) ≡ true) ⊎ Begins (codes "?>") rest

abbrev pub InstructionsAreJudged : Type 0
InstructionsAreJudged = (content : List ℕ) → IsUtf8 content →
    (is_bad_pi (codes "<?" ++ content) ≡ false) ↔ ((target rest : List ℕ) × (content ≡ target ++ rest) × IsTarget target rest)
