-- Whether a URI is that of a file of the chain.
use Rattle.std.proofs.Common.{◌≡◌, refl, sym, ap, ◌∙◌, subst, ℕ, zero, suc, Bool, true, false, cond, List, [], ◌∷◌, ◌++◌, Option, Some, None, Vec, Global, is_some, arith}
use Rattle.std.specs.Prelude.{Contains, ◌||◌, reverse}
use Rattle.std.proofs.lemmas.Bool.{false≢true}
use Rattle.std.proofs.lemmas.List.{reverse-append}
use Rattle.rnc_parse.specs.declared.surface.Defined.TheVariants as defined
use Rattle.std.specs.Cmp.Lexicographic.{bytes_decides}
use Rattle.std.specs.List.{list_any}
use Rattle.std.specs.Str.{bytes_eq}
use Rattle.rng_simplify.specs.declared.load.Link.{Link}
use Rattle.rng_simplify.specs.declared.mention.Mention.{Mention as Kept}
use Rattle.rng_simplify.specs.declared.names.Names.{Names}
use Rattle.rng_simplify.specs.FileChains.{uris_of, AreOpened}
use Rattle.rng_simplify.specs.NameTables.{kept_named, KeepsOne}

or_true : (b r : Bool) → r ≡ true → (b || r) ≡ true
or_true true r h = refl
or_true false r h = h

-- what is found is there
found_there : (uri : List ℕ) (links : List Link) → list_any (λ link. bytes_eq uri link.uri) links ≡ true → Contains (uris_of links) uri
found_there uri [] h = let never : ⊥ = cc in absurd never
found_there uri (link ∷ links) h = at (bytes_eq uri link.uri) refl h (found_there uri links)
  where
    at : (b : Bool) → bytes_eq uri link.uri ≡ b → (b || list_any (λ link. bytes_eq uri link.uri) links) ≡ true →
        (list_any (λ link. bytes_eq uri link.uri) links ≡ true → Contains (uris_of links) uri) → Contains (uris_of (link ∷ links)) uri
    at true e h more = (0, omega arith, sym ((bytes_decides uri link.uri).0 e))
    at false e h more = let there : Contains (uris_of links) uri = more h in (suc there.0, omega (arith, there.1), there.2)

-- and what is there is found
there_found : (uri : List ℕ) (links : List Link) → Contains (uris_of links) uri → list_any (λ link. bytes_eq uri link.uri) links ≡ true
there_found uri [] among = absurd (omega (arith, among.1))
there_found uri (link ∷ links) (zero, below, is) =
    ap (λ b. b || list_any (λ link. bytes_eq uri link.uri) links) ((bytes_decides uri link.uri).1 (sym is))
there_found uri (link ∷ links) (suc k, below, is) =
    or_true (bytes_eq uri link.uri) (list_any (λ link. bytes_eq uri link.uri) links) (there_found uri links (k, omega (arith, below), is))

-- a URI that was never opened is that of no file of the chain
pub none_opened : (opened : Names (Unit {0})) (uri : List ℕ) (links : List Link) → AreOpened opened links → kept_named opened uri ≡ None →
    list_any (λ link. bytes_eq uri link.uri) links ≡ false
none_opened opened uri [] known none = refl
none_opened opened uri (link ∷ links) known none = at (bytes_eq uri link.uri) refl (none_opened opened uri links known.1 none)
  where
    at : (b : Bool) → bytes_eq uri link.uri ≡ b → list_any (λ link. bytes_eq uri link.uri) links ≡ false →
        (b || list_any (λ link. bytes_eq uri link.uri) links) ≡ false
    at true e more =
        let there : is_some (kept_named opened uri) ≡ true =
        subst (λ u. is_some (kept_named opened u) ≡ true) (sym ((bytes_decides uri link.uri).0 e)) known.0 in
        absurd (false≢true (sym (ap (λ (o : Option (Unit {0})). is_some o) none) ∙ there))
    at false e more = more

-- all files stay opened where one more is
opened_or : (b : Bool) (o : Option (Unit {0})) → is_some o ≡ true → is_some (cond b (Some tt) o) ≡ true
opened_or true o h = refl
opened_or false o h = h

stay_opened : (old new : Names (Unit {0})) (uri : List ℕ) (links : List Link) → KeepsOne old (defined.Name uri) tt new → AreOpened old links →
    AreOpened new links
stay_opened old new uri [] keeps known = tt
stay_opened old new uri (link ∷ links) keeps known = (
  subst (λ (o : Option (Unit {0})). is_some o ≡ true) (sym (keeps (defined.Name link.uri)))
      (opened_or (bytes_eq link.uri uri) (kept_named old link.uri) known.0),
  stay_opened old new uri links keeps known.1,
)

opened_here : (b : Bool) (o : Option (Unit {0})) → b ≡ true → is_some (cond b (Some tt) o) ≡ true
opened_here true o is = refl
opened_here false o is = let never : ⊥ = cc in absurd never

pub one_more_opened : (old new : Names (Unit {0})) (uri : List ℕ) (waiting : Vec Kept Global) (old_links new_links : List Link) →
    KeepsOne old (defined.Name uri) tt new → new_links ≡ old_links ++ record { uri = uri; waiting = waiting } ∷ [] →
    AreOpened old (reverse old_links) → AreOpened new (reverse new_links)
one_more_opened old new uri waiting old_links new_links keeps are known =
    let back : reverse new_links ≡ record { uri = uri; waiting = waiting } ∷ reverse old_links =
    ap reverse are ∙ reverse-append old_links (record { uri = uri; waiting = waiting } ∷ []) in
    subst (λ links. AreOpened new links) (sym back) (
      subst (λ (o : Option (Unit {0})). is_some o ≡ true) (sym (keeps (defined.Name uri)))
          (opened_here (bytes_eq uri uri) (kept_named old uri) ((bytes_decides uri uri).1 refl)),
      stay_opened old new uri (reverse old_links) keeps known,
    )

-- the URI is that of the file itself
pub leads_to_itself : (uri base : List ℕ) (links : List Link) → bytes_eq uri base ≡ true → Contains (base ∷ uris_of links) uri
leads_to_itself uri base links e = (0, omega arith, sym ((bytes_decides uri base).0 e))

-- or of one that leads to it
pub leads_back : (uri base : List ℕ) (links : List Link) → list_any (λ link. bytes_eq uri link.uri) links ≡ true →
    Contains (base ∷ uris_of links) uri
leads_back uri base links h =
    let there : Contains (uris_of links) uri = found_there uri links h in (suc there.0, omega (arith, there.1), there.2)

-- or of none
pub leads_on : (uri base : List ℕ) (links : List Link) → bytes_eq uri base ≡ false →
    list_any (λ link. bytes_eq uri link.uri) links ≡ false → Contains (base ∷ uris_of links) uri → ⊥
leads_on uri base links itself none (zero, below, is) =
    let e : bytes_eq uri base ≡ true = (bytes_decides uri base).1 (sym is) in let never : ⊥ = cc in never
leads_on uri base links itself none (suc k, below, is) =
    let e : list_any (λ link. bytes_eq uri link.uri) links ≡ true = there_found uri links (k, omega (arith, below), is) in
    let never : ⊥ = cc in never
