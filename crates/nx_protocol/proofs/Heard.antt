-- What is put under a URI, as messages say it.
use Rattle.std.proofs.Common.{◌≡◌, ℕ, Bool, true, false, cond, List, Option, Some, None, is_some, option_map, refl, ap, subst, ◌∙◌, inl, inr}
use Rattle.std.proofs.lemmas.Slice.Eq.{bytes_eq-Decides}
use Rattle.std.specs.Str.{bytes_eq}
use Rattle.nx_protocol.specs.Changes.{document_where}
use Rattle.nx_protocol.specs.Documents.{Document, DocumentMap, IsHeldOrLost, Puts}

-- a rule that hangs on what was there: under the URI itself that is the same
put_rule : (uri asked : List ℕ) (rule : Option Document → Option Document) (old : DocumentMap) (same : Bool) → bytes_eq uri asked ≡ same →
    cond same (rule (old uri)) (old asked) ≡ cond same (rule (old asked)) (old asked)
put_rule uri asked rule old true e = ap (λ one. rule (old one)) ((bytes_eq-Decides uri asked).0 e)
put_rule uri asked rule old false e = refl

-- a document is put where a message says
pub put_where : (about : Option (List ℕ)) (uri : List ℕ) (rule : Option Document → Option Document) (old new : DocumentMap) → Some uri ≡ about →
    Puts old uri (rule (old uri)) new → (asked : List ℕ) → new asked ≡ document_where about asked (rule (old asked)) (old asked)
put_where about uri rule old new e put asked =
    subst (λ told. new asked ≡ document_where told asked (rule (old asked)) (old asked)) e (put asked ∙ put_rule uri asked rule old (bytes_eq uri asked) refl)

lost_rule : (same : Bool) (given old now : Option Document) → now ≡ cond same None old → IsHeldOrLost (cond same given old) now
lost_rule true given old now e = inr e
lost_rule false given old now e = inl e

-- or is lost there
pub lost_where : (about : Option (List ℕ)) (uri : List ℕ) (rule : Option Document → Option Document) (old new : DocumentMap) → Some uri ≡ about →
    Puts old uri None new → (asked : List ℕ) → IsHeldOrLost (document_where about asked (rule (old asked)) (old asked)) (new asked)
lost_where about uri rule old new e put asked =
    subst (λ told. IsHeldOrLost (document_where told asked (rule (old asked)) (old asked)) (new asked)) e
    (lost_rule (bytes_eq uri asked) (rule (old asked)) (old asked) (new asked) (put asked))

-- where a message doesn't say, all are lost
pub lost_all : (about : Option (List ℕ)) (rule : Option Document → Option Document) (old new : DocumentMap) → None ≡ about →
    ((asked : List ℕ) → new asked ≡ None) → (asked : List ℕ) → new asked ≡ document_where about asked (rule (old asked)) (old asked)
lost_all about rule old new e lost asked = subst (λ told. new asked ≡ document_where told asked (rule (old asked)) (old asked)) e (lost asked)

-- what holds of what a message says holds of what it is read as
pub by_parts : {A B C : Type 0} (P : A → B → C → Type 0) (a : A) (as_read : A) (b : B) (b_read : B) (c : C) (c_read : C) → a ≡ as_read → b ≡ b_read → c ≡ c_read →
    P a b c → P as_read b_read c_read
by_parts P a as_read b b_read c c_read p q r holds =
    subst (λ x. P as_read b_read x) r (subst (λ x. P as_read x c) q (subst (λ x. P x b c) p holds))

-- where nothing is heard all documents stay
pub stays : (heard : Bool) (old : Option Document) → old ≡ cond heard old old
stays true old = refl
stays false old = refl

-- whether a message says something
pub said : {A B : Type 0} (seen : A → B) (found : Option A) (says : Option B) → option_map seen found ≡ says → is_some found ≡ is_some says
said seen None says e = ap is_some e
said seen (Some one) says e = ap is_some e
