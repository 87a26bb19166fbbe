-- The answers about types decide the facts.
use Rattle.std.specs.Prelude.{ℕ, List, [], ◌∷◌, IsTrue, ◌↔◌}
use Rattle.std.proofs.Common.{refl, sym, ◌∙◌}
use Rattle.std.specs.List.{AllByRecursion}
use Rattle.std.proofs.lemmas.Bool.{and_parts, and_from, not-true, not_from_false, false≢true, false_from_ne_true}
use Rattle.std.proofs.lemmas.Bool.Decides.{Decides-int_eq}
use Rattle.std.specs.Cmp.{booleans_Decides}
use Rattle.std.specs.Cmp.Lexicographic.{bytes_decides}
use Rattle.rng_types.specs.Spaces.{collapsed}
use Rattle.rng_types.specs.Words.{is_true}
use Rattle.rng_types.specs.Types.{seen_by, SameWord, SameOfForm, TakesAway}
use Rattle.rng_types.specs.Answers.{is_same_word, is_same_of_form, is_left, AcceptsIsDecided, SameValueIsDecided, TakesAwayIsDecided, LeftIsDecided}
use Rattle.rng_types.specs.declared.kind.Word.{Word}
use Rattle.rng_types.specs.declared.kind.Word.TheVariants.{Name, NcName, NmToken, Language, Boolean, Decimal, Integer}
use Rattle.rng_types.specs.declared.kind.Form.{Form}
use Rattle.rng_types.specs.declared.kind.Form.TheVariants.{Any, One, Several, More}
use Rattle.rng_types.specs.declared.datatype.Datatype.{Datatype}
use Rattle.rng_types.proofs.MoreSame.{same_decided}
use Rattle.rng_types.specs.declared.datatype.Except.{Except}
use Rattle.rng_types.specs.declared.datatype.Except.TheVariants.{Own, BuiltinString, BuiltinToken}

pub accepts_decided : AcceptsIsDecided
accepts_decided type text = (
  λ all. let parts = and_parts _ _ all in record { form = parts.0; facets = parts.1 },
  λ is. and_from _ _ is.form is.facets,
)

same_word_decided : (word : Word) (a b : List ℕ) → IsTrue (is_same_word word a b) ↔ SameWord word a b
same_word_decided Boolean a b = booleans_Decides (is_true a) (is_true b)
same_word_decided Decimal a b = Decides-int_eq _ _
same_word_decided Integer a b = Decides-int_eq _ _
same_word_decided Name a b = bytes_decides a b
same_word_decided NcName a b = bytes_decides a b
same_word_decided NmToken a b = bytes_decides a b
same_word_decided Language a b = bytes_decides a b

pub same_of_form_decided : (form : Form) (a b : List ℕ) → IsTrue (is_same_of_form form a b) ↔ SameOfForm form a b
same_of_form_decided (Any whitespace) a b = bytes_decides a b
same_of_form_decided (One word) a b = same_word_decided word a b
same_of_form_decided (Several word) a b = bytes_decides a b
same_of_form_decided (More more) a b = same_decided more a b

pub same_value_decided : SameValueIsDecided
same_value_decided type a b = same_of_form_decided type.form (seen_by type a) (seen_by type b)

pub takes_away_decided : TakesAwayIsDecided
takes_away_decided type text (Own literal) = same_value_decided type text literal
takes_away_decided type text (BuiltinString literal) = bytes_decides text literal
takes_away_decided type text (BuiltinToken literal) = bytes_decides (collapsed text) (collapsed literal)

left_each : (type : Datatype) (text : List ℕ) (excepts : List Except) → IsTrue (is_left type excepts text) → AllByRecursion (λ except. TakesAway type text except → ⊥) excepts
left_each type text [] left = tt
left_each type text (except ∷ excepts) left =
    let parts = and_parts _ _ left in
    (λ takes. false≢true (sym (not-true _ parts.0) ∙ (takes_away_decided type text except).1 takes), left_each type text excepts parts.1)

each_left : (type : Datatype) (text : List ℕ) (excepts : List Except) → AllByRecursion (λ except. TakesAway type text except → ⊥) excepts → IsTrue (is_left type excepts text)
each_left type text [] none = refl
each_left type text (except ∷ excepts) none =
    and_from _ _ (not_from_false _ (false_from_ne_true _ (λ taken. none.0 ((takes_away_decided type text except).0 taken)))) (each_left type text excepts none.1)

pub left_decided : LeftIsDecided
left_decided type text excepts = (λ left. left_each type text excepts left, λ none. each_left type text excepts none)
