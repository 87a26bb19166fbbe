-- What is known while references are resolved, with one more node taken.
use Rattle.std.proofs.Common.{◌≡◌, ◌≢◌, refl, sym, ap, ◌∙◌, subst, ℕ, zero, suc, ◌+◌, ◌<◌, inl, inr, ◌⊎◌, Bool, true, false, cond, List, [], ◌∷◌, ◌++◌, length, set, get_or, slice_get, Option, Some, None, Result, Ok, Err, Contains, arith}
use Rattle.std.proofs.lemmas.Option.{slice_get_within}
use Rattle.std.proofs.lemmas.Bool.{cases_eq, cases_lt}
use Rattle.std.proofs.lemmas.List.{length-set, get_or-set_same, get_or-set_other, set_past}
use Rattle.nx_base.specs.declared.cause.Cause.TheVariants as cause
use Rattle.rnc_parse.specs.declared.surface.Defined.{Defined}
use Rattle.rnc_parse.specs.declared.surface.Defined.TheVariants as defined
use Rattle.rng_simplify.specs.declared.fault.SchemaFault.{SchemaFault}
use Rattle.rng_simplify.specs.declared.fault.SchemaFault.TheVariants.{NoMemory, Unreadable}
use Rattle.rng_simplify.specs.declared.names.Names.{Names}
use Rattle.rng_simplify.specs.declared.node.Clause.{Clause}
use Rattle.rng_simplify.specs.declared.resolve.Combined.{Combined}
use Rattle.rng_simplify.specs.declared.resolve.Table.{Table}
use Rattle.rng_simplify.specs.declared.resolve.Scope.{Scope}
use Rattle.rng_simplify.specs.declared.resolve.Scope.TheVariants.{Nowhere, In}
use Rattle.rng_simplify.specs.Refusals.{IsRefusal, OkOrRefused}
use Rattle.rng_simplify.specs.Broken.{Has, IsUndefined, HasNoStart, HasClash, clash}
use Rattle.rng_simplify.specs.Cells.{Cell}
use Rattle.rng_simplify.specs.Cells as cell
use Rattle.rng_simplify.specs.Composed.{Composed, Clauses, same_defined, defines, defining, combines, bodies}
use Rattle.rng_simplify.specs.Composed as composed
use Rattle.rng_simplify.specs.CellMeanings.{IsCell, Denotes, DenoteAll, none_denoted, next_denoted}
use Rattle.rng_simplify.specs.NameTables.{kept_named, kept_for}
use Rattle.rng_simplify.specs.NodePlaces.{cell_parts, bodies_of, inner_nodes, AreWellFormed, Stands, IsStanding, AreScopes}
use Rattle.rng_simplify.specs.NodePlaces as standing
use Rattle.rng_simplify.specs.ResolvedNodes.{combined_number, clauses_of, combines_of, IsCombined, IsCombinedIn, IsCombinedOutside, IsOfGrammar}
use Rattle.rng_simplify.specs.declared.resolve.Target.{Target}
use Rattle.rng_simplify.specs.declared.resolve.Target.TheVariants.{Nothing, Definitions}
use Rattle.rng_simplify.specs.Findings.{IsGatheredAs, KeepsFirst, Findings, given, with_given, with_link, outer_of, outer_in, combined_of_table, combined_in, Links, HasTable, TakesGrammar, TakesCell, IsKept, IsTable, IsScope, outside, inside, IsPosted, IsTaken, IsMidway}
use Rattle.rng_simplify.proofs.Nodes.{in_none, in_first, in_more, in_cases, one_cell, place_of, denoted_by}
use Rattle.rng_simplify.proofs.Posts.{within, stands_in, stands_by, stands_once, one_grammar}

-- ---- scopes that are given

pub length_given : (nodes : List ℕ) (scope : Scope) (scopes : List Scope) → length (given nodes scope scopes) ≡ length scopes
length_given [] scope scopes = refl
length_given (i ∷ more) scope scopes = length_given more scope (set scopes i scope) ∙ length-set scopes i scope

-- a scope is set, and all others are what they were
pub set_cases : (scopes : List Scope) (i : ℕ) (scope : Scope) (j : ℕ) → ((get_or (set scopes i scope) j Nowhere ≡ scope) × (i ≡ j)) ⊎ (get_or (set scopes i scope) j Nowhere ≡ get_or scopes j Nowhere)
set_cases scopes i scope j =
    elim (cases_eq j i) [
      | inr other ↦ inr (get_or-set_other scopes i j scope Nowhere other)
      | inl is ↦ elim (cases_lt i (length scopes)) [
        | inl lt ↦ inl (ap (λ k. get_or (set scopes i scope) k Nowhere) is ∙ get_or-set_same scopes i scope Nowhere lt, sym is)
        | inr past ↦ inr (ap (λ (xs : List Scope). get_or xs j Nowhere) (set_past scopes i scope past))
      ]
    ]

-- what is given a scope has it, and all else has what it had
pub given_cases : (nodes : List ℕ) (scope : Scope) (scopes : List Scope) (j : ℕ) → ((get_or (given nodes scope scopes) j Nowhere ≡ scope) × Contains nodes j) ⊎ (get_or (given nodes scope scopes) j Nowhere ≡ get_or scopes j Nowhere)
given_cases [] scope scopes j = inr refl
given_cases (i ∷ more) scope scopes j =
    elim (given_cases more scope (set scopes i scope) j) [
      | inl h ↦ inl (h.0, in_more i more j h.1)
      | inr same ↦ elim (set_cases scopes i scope j) [
        | inl h ↦ inl (same ∙ h.0, subst (λ k. Contains (i ∷ more) k) h.1 (in_first i more))
        | inr other ↦ inr (same ∙ other)
      ]
    ]

-- what had a scope has one
pub given_keeps : (nodes : List ℕ) (scope : Scope) (scopes : List Scope) (j : ℕ) → scope ≢ Nowhere → get_or scopes j Nowhere ≢ Nowhere → get_or (given nodes scope scopes) j Nowhere ≢ Nowhere
given_keeps nodes scope scopes j some before none =
    elim (given_cases nodes scope scopes j) [
      | inl h ↦ some (sym h.0 ∙ none)
      | inr same ↦ before (sym same ∙ none)
    ]

-- what is given a scope has one
pub given_some : (nodes : List ℕ) (scope : Scope) (scopes : List Scope) (j : ℕ) → scope ≢ Nowhere → Contains nodes j → j < length scopes → get_or (given nodes scope scopes) j Nowhere ≢ Nowhere
given_some [] scope scopes j some among lt = absurd (in_none among)
given_some (i ∷ more) scope scopes j some among lt =
    elim (in_cases i more j among) [
      | inl is ↦ given_keeps more scope (set scopes i scope) j some (λ none. some (sym (ap (λ k. get_or (set scopes i scope) k Nowhere) (sym is) ∙ get_or-set_same scopes i scope Nowhere (omega (arith, is, lt))) ∙ none))
      | inr further ↦ given_some more scope (set scopes i scope) j some further (omega (arith, lt, length-set scopes i scope))
    ]

-- ---- what stays known

pub record KeepsCombinations (old new : List Combined) : Type 0 where
  pub stays : (number : ℕ) (combination : Combined) → slice_get old number ≡ Some combination → slice_get new number ≡ Some combination

pub record KeepsTables (old new : List Table) : Type 0 where
  pub stays : (k : ℕ) (table : Table) → slice_get old k ≡ Some table → slice_get new k ≡ Some table

pub combined_on : {cells : List Cell} {old new : List Combined} {grammar : ℕ} {name : Defined} {number : ℕ} → KeepsCombinations old new → IsCombined cells old grammar name number → IsCombined cells new grammar name number
combined_on keeps h = record { clauses = h.clauses; is_grammar = h.is_grammar; is_defined = h.is_defined; combination = h.combination; there = keeps.stays _ _ h.there; bodies_are = h.bodies_are; combine_is = h.combine_is }

combined_in_on : {old new : List Combined} (cells : List Cell) (name : Defined) (number : ℕ) (outers : List ℕ) → KeepsCombinations old new → IsCombinedIn cells old outers name number → IsCombinedIn cells new outers name number
combined_in_on cells name number [] keeps h = h
combined_in_on cells name number (grammar ∷ outers) keeps h = combined_on keeps h

combined_outside_on : {old new : List Combined} (cells : List Cell) (name : Defined) (number : ℕ) (outers : List ℕ) → KeepsCombinations old new → IsCombinedOutside cells old outers name number → IsCombinedOutside cells new outers name number
combined_outside_on cells name number [] keeps h = h
combined_outside_on cells name number (inner ∷ outers) keeps h = combined_in_on cells name number outers keeps h

kept_on : {old new : List Combined} (cells : List Cell) (grammar : ℕ) (clauses : List Clause) (name : Defined) (kept : Option ℕ) → KeepsCombinations old new → IsKept cells old grammar clauses name kept → IsKept cells new grammar clauses name kept
kept_on cells grammar clauses name None keeps h = h
kept_on cells grammar clauses name (Some number) keeps h = combined_on keeps h

table_on : {cells : List Cell} {old new : List Combined} {grammar : ℕ} {names : Names ℕ} → KeepsCombinations old new → IsTable cells old grammar names → IsTable cells new grammar names
table_on {cells = cells} {grammar = grammar} {names = names} keeps h = record { clauses = h.clauses; is_grammar = h.is_grammar; kept = λ name. kept_on cells grammar h.clauses name (kept_for names name) keeps (h.kept name) }

pub scope_on : {cells : List Cell} {old new : List Combined} {before after : List Table} {scope : Scope} {outers : List ℕ} → KeepsCombinations old new → KeepsTables before after → IsScope cells old before scope outers → IsScope cells new after scope outers
scope_on combined tables outside = outside
scope_on combined tables (inside at table more) = inside (tables.stays _ _ at) (table_on combined table) (scope_on combined tables more)

taken_on : {old new : List Combined} (cells : List Cell) (outers : List ℕ) (i : ℕ) (link : Target) (c : Cell) → KeepsCombinations old new → IsTaken cells old outers i link c → IsTaken cells new outers i link c
taken_on cells outers i link (cell.element class part) keeps h = tt
taken_on cells outers i link (cell.attribute class part) keeps h = tt
taken_on cells outers i link (cell.listed part) keeps h = tt
taken_on cells outers i link (cell.ref name) keeps h = (h.0, combined_in_on cells (defined.Name name) (combined_number link) outers keeps h.1)
taken_on cells outers i link (cell.parent_ref name) keeps h = (h.0, combined_outside_on cells (defined.Name name) (combined_number link) outers keeps h.1)
taken_on cells outers i link cell.empty keeps h = tt
taken_on cells outers i link cell.any_text keeps h = tt
taken_on cells outers i link cell.not_allowed keeps h = tt
taken_on cells outers i link (cell.value type text) keeps h = tt
taken_on cells outers i link (cell.typed type params part) keeps h = tt
taken_on cells outers i link (cell.grammar clauses) keeps h = (h.0, combined_on keeps h.1, h.2)
taken_on cells outers i link (cell.one_or_more part) keeps h = tt
taken_on cells outers i link (cell.joined sign first second) keeps h = tt

-- ---- one more node

-- a node that has no scope doesn't stand in the schema
pub nowhere_stands : {cells : List Cell} {root i : ℕ} {now : Findings} {outers : List ℕ} → AreWellFormed cells root → IsMidway cells root (i + 1) now → get_or now.scopes i Nowhere ≡ Nowhere → Stands cells root outers i → ⊥
nowhere_stands {i = i} {now = now} formed midway none stands =
    elim (stands_by stands) [
      | inl is ↦ midway.root_known (ap (λ k. get_or now.scopes k Nowhere) (sym is.root_is) ∙ none)
      | inr h ↦
          let less = formed.inner_below h.outer i h.cell h.is_cell h.inner in
          midway.inner_known h.outer i h.cell (omega (arith, less)) (h.around, h.stands) h.is_cell h.inner none
    ]

-- so there is nothing to know of it
pub nowhere_taken : {cells : List Cell} {root i : ℕ} {now : Findings} → AreWellFormed cells root → IsMidway cells root (i + 1) now → get_or now.scopes i Nowhere ≡ Nowhere → IsMidway cells root i now
nowhere_taken {cells = cells} {root = root} {i = i} {now = now} formed midway none =
    let never : (k : ℕ) (outers : List ℕ) → k ≡ i → Stands cells root outers k → ⊥ = λ k outers is stands. nowhere_stands formed midway none (subst (λ m. Stands cells root outers m) is stands) in
    record {
      all_scopes = midway.all_scopes;
      all_links = midway.all_links;
      posted = midway.posted;
      root_known = midway.root_known;
      inner_known = λ k j c le stands at inner. elim (cases_eq k i) [
        | inl is ↦ absurd (never k stands.0 is stands.1)
        | inr other ↦ midway.inner_known k j c (omega (arith, le, other)) stands at inner
      ];
      taken = λ outers k c le stands at. elim (cases_eq k i) [
        | inl is ↦ absurd (never k outers is stands)
        | inr other ↦ midway.taken outers k c (omega (arith, le, other)) stands at
      ];
      each_combined = midway.each_combined;
    }

-- what is known of a node that stands in the schema, and is taken
pub record IsNext (cells : List Cell) (root i : ℕ) (c : Cell) (outers : List ℕ) (scope : Scope) (old new : Findings) : Type 0 where
  pub some : scope ≢ Nowhere
  pub scopes_are : new.scopes ≡ given (inner_nodes c) scope old.scopes
  pub is_scope : IsScope cells new.combined new.tables scope (within c i outers)
  pub all_links : length new.links ≡ length old.links
  pub other_links : (k : ℕ) → k ≢ i → get_or new.links k Nothing ≡ get_or old.links k Nothing
  pub combined : KeepsCombinations old.combined new.combined
  pub tables : KeepsTables old.tables new.tables
  pub taken : IsTaken cells new.combined outers i (get_or new.links i Nothing) c
  pub each_combined : (number : ℕ) → number < length new.combined → IsOfGrammar cells root new.combined number

next_posted : {cells : List Cell} {root i : ℕ} {c : Cell} {outers : List ℕ} {scope : Scope} {old new : Findings} → IsMidway cells root (i + 1) old → IsCell cells i c → Stands cells root outers i → IsNext cells root i c outers scope old new → (j : ℕ) → get_or new.scopes j Nowhere ≢ Nowhere → IsPosted cells root new (get_or new.scopes j Nowhere) j
next_posted {cells = cells} {root = root} {i = i} {c = c} {outers = outers} {scope = scope} {old = old} {new = new} midway at stands next j some =
    let is : get_or new.scopes j Nowhere ≡ get_or (given (inner_nodes c) scope old.scopes) j Nowhere = ap (λ (xs : List Scope). get_or xs j Nowhere) next.scopes_are in
    elim (given_cases (inner_nodes c) scope old.scopes j) [
      | inl h ↦ subst (λ (s : Scope). IsPosted cells root new s j) (sym (is ∙ h.0)) (record { outers = within c i outers; stands = stands_in c stands at h.1; is_scope = next.is_scope })
      | inr same ↦
          let before = midway.posted j (λ none. some (is ∙ same ∙ none)) in
          subst (λ (s : Scope). IsPosted cells root new s j) (sym (is ∙ same)) (record { outers = before.outers; stands = before.stands; is_scope = scope_on next.combined next.tables before.is_scope })
    ]

-- a node that stands there again is the same
same_taken : {cells : List Cell} {root i : ℕ} {c : Cell} {outers : List ℕ} (combined : List Combined) (links : List Target) → AreWellFormed cells root → IsCell cells i c → Stands cells root outers i → IsTaken cells combined outers i (get_or links i Nothing) c → (others : List ℕ) (k : ℕ) (d : Cell) → k ≡ i → Stands cells root others k → IsCell cells k d → IsTaken cells combined others k (get_or links k Nothing) d
same_taken {cells = cells} {root = root} {i = i} {c = c} {outers = outers} combined links formed at stands taken others k d is standing at_k =
    let same_cell : c ≡ d = one_cell cells i c d at (subst (λ m. IsCell cells m d) is at_k) in
    let same_outers : outers ≡ others = stands_once formed stands (subst (λ m. Stands cells root others m) is standing) in
    subst (λ m. IsTaken cells combined others m (get_or links m Nothing) d) (sym is)
    (subst (λ (e : Cell). IsTaken cells combined others i (get_or links i Nothing) e) same_cell
    (subst (λ os. IsTaken cells combined os i (get_or links i Nothing) c) same_outers taken))

pub next_taken : {cells : List Cell} {root i : ℕ} {c : Cell} {outers : List ℕ} {scope : Scope} {old new : Findings} → AreWellFormed cells root → IsMidway cells root (i + 1) old → IsCell cells i c → Stands cells root outers i → IsNext cells root i c outers scope old new → IsMidway cells root i new
next_taken {cells = cells} {root = root} {i = i} {c = c} {outers = outers} {scope = scope} {old = old} {new = new} formed midway at stands next =
    let known : (j : ℕ) → get_or (given (inner_nodes c) scope old.scopes) j Nowhere ≢ Nowhere → get_or new.scopes j Nowhere ≢ Nowhere = λ j some none. some (ap (λ (xs : List Scope). get_or xs j Nowhere) (sym next.scopes_are) ∙ none) in
    record {
      all_scopes = ap length next.scopes_are ∙ length_given (inner_nodes c) scope old.scopes ∙ midway.all_scopes;
      all_links = next.all_links ∙ midway.all_links;
      posted = next_posted midway at stands next;
      root_known = known root (given_keeps (inner_nodes c) scope old.scopes root next.some midway.root_known);
      inner_known = λ k j d le standing at_k inner. elim (cases_eq k i) [
        | inl is ↦
            let same : d ≡ c = one_cell cells i d c (subst (λ m. IsCell cells m d) is at_k) at in
            let among : Contains (inner_nodes c) j = subst (λ (e : Cell). Contains (inner_nodes e) j) same inner in
            let below = formed.inner_below i j c at among in
            known j (given_some (inner_nodes c) scope old.scopes j next.some among (omega (arith, below, slice_get_within cells i c at, midway.all_scopes)))
        | inr other ↦ known j (given_keeps (inner_nodes c) scope old.scopes j next.some (midway.inner_known k j d (omega (arith, le, other)) standing at_k inner))
      ];
      taken = λ others k d le standing at_k. elim (cases_eq k i) [
        | inl is ↦ same_taken new.combined new.links formed at stands next.taken others k d is standing at_k
        | inr other ↦ subst (λ (link : Target). IsTaken cells new.combined others k link d) (sym (next.other_links k other)) (taken_on cells others k (get_or old.links k Nothing) d next.combined (midway.taken others k d (omega (arith, le, other)) standing at_k))
      ];
      each_combined = next.each_combined;
    }

-- ---- lists that grow

pub stays_behind : {X : Type 0} (old more : List X) (k : ℕ) (x : X) → slice_get old k ≡ Some x → slice_get (old ++ more) k ≡ Some x
stays_behind [] more k x h = let never : ⊥ = cc in absurd never
stays_behind (y ∷ old) more zero x h = h
stays_behind (y ∷ old) more (suc k) x h = stays_behind old more k x h

pub last_there : {X : Type 0} (old : List X) (x : X) → slice_get (old ++ x ∷ []) (length old) ≡ Some x
last_there [] x = refl
last_there (y ∷ old) x = last_there old x

-- ---- what grammars define

-- what is defined under a name, by the clauses that grammars stand for
defined_none_if : (b : Bool) (name : Defined) (clause : Clause) (more : List Clause) (rest : Clauses) → (clauses_of name more ≡ [] → defines name rest ≡ false) → cond b (clause ∷ clauses_of name more) (clauses_of name more) ≡ [] → cond b true (defines name rest) ≡ false
defined_none_if true name clause more rest further none = let never : ⊥ = cc in absurd never
defined_none_if false name clause more rest further none = further none

pub defined_none : {cells : List Cell} {number : ℕ → ℕ} {clauses : List Clause} {all : Clauses} (name : Defined) → DenoteAll cells number clauses all → clauses_of name clauses ≡ [] → defines name all ≡ false
defined_none name none_denoted none = refl
defined_none name (next_denoted {clause = clause} {more = more} {rest = rest} body others) none =
    defined_none_if (same_defined name clause.name) name clause more rest (defined_none name others) none

combines_if : (b : Bool) (name : Defined) (clause : Clause) (more : List Clause) (p : Composed) (rest : Clauses) → combines (defining name rest) ≡ combines_of (clauses_of name more) → combines (cond b (composed.clause_then clause.name clause.combine p (defining name rest)) (defining name rest)) ≡ combines_of (cond b (clause ∷ clauses_of name more) (clauses_of name more))
combines_if true name clause more p rest further = ap (λ cs. clause.combine ∷ cs) further
combines_if false name clause more p rest further = further

pub combines_denoted : {cells : List Cell} {number : ℕ → ℕ} {clauses : List Clause} {all : Clauses} (name : Defined) → DenoteAll cells number clauses all → combines (defining name all) ≡ combines_of (clauses_of name clauses)
combines_denoted name none_denoted = refl
combines_denoted name (next_denoted {clause = clause} {more = more} {p = p} {rest = rest} body others) =
    combines_if (same_defined name clause.name) name clause more p rest (combines_denoted name others)

-- ---- references that are refused

-- a name that isn't defined there
abbrev pub IsUndefinedIn : List Cell → List ℕ → List ℕ → Type 0
IsUndefinedIn cells [] name = Unit {0}
IsUndefinedIn cells (grammar ∷ outers) name = (clauses : List Clause) × IsCell cells grammar (cell.grammar clauses) × (clauses_of (defined.Name name) clauses ≡ [])

abbrev pub IsUndefinedOutside : List Cell → List ℕ → List ℕ → Type 0
IsUndefinedOutside cells [] name = Unit {0}
IsUndefinedOutside cells (inner ∷ outers) name = IsUndefinedIn cells outers name

grammar_lacks : {cells : List Cell} {number : ℕ → ℕ} {clauses : List Clause} {all : Clauses} (grammar : ℕ) (others : List Clause) (name : Defined) → IsCell cells grammar (cell.grammar clauses) → DenoteAll cells number clauses all → IsCell cells grammar (cell.grammar others) → clauses_of name others ≡ [] → defines name all ≡ false
grammar_lacks {cells = cells} {clauses = clauses} grammar others name at denoted again none = defined_none name denoted (ap (clauses_of name) (one_grammar cells grammar clauses others at again) ∙ none)

undefined_here : {cells : List Cell} {number : ℕ → ℕ} {outers : List ℕ} {scopes : List Clauses} (name : List ℕ) → AreScopes cells number outers scopes → IsUndefinedIn cells outers name → IsUndefined scopes (composed.ref name)
undefined_here name standing.no_scopes h = tt
undefined_here name (standing.further_scope {i = grammar} at denoted more) h = grammar_lacks grammar h.0 (defined.Name name) at denoted h.1 h.2

undefined_around : {cells : List Cell} {number : ℕ → ℕ} {outers : List ℕ} {scopes : List Clauses} (name : List ℕ) (inner : Clauses) → AreScopes cells number outers scopes → IsUndefinedIn cells outers name → IsUndefined (inner ∷ scopes) (composed.parent_ref name)
undefined_around name inner standing.no_scopes h = tt
undefined_around name inner (standing.further_scope {i = grammar} at denoted more) h = grammar_lacks grammar h.0 (defined.Name name) at denoted h.1 h.2

undefined_outside : {cells : List Cell} {number : ℕ → ℕ} {outers : List ℕ} {scopes : List Clauses} (name : List ℕ) → AreScopes cells number outers scopes → IsUndefinedOutside cells outers name → IsUndefined scopes (composed.parent_ref name)
undefined_outside name standing.no_scopes h = tt
undefined_outside name (standing.further_scope {all = all} at denoted more) h = undefined_around name all more h

-- something of a kind stands where a node does
pub has_at : {cells : List Cell} {number : ℕ → ℕ} {root : ℕ} {whole : Composed} {outers : List ℕ} {i : ℕ} (kind : List Clauses → Composed → Type 0) → Denotes cells number root whole → Stands cells root outers i → ((scopes : List Clauses) (p : Composed) → AreScopes cells number outers scopes → Denotes cells number i p → kind scopes p) → Has whole kind
has_at kind denotes stands is =
    let h = place_of denotes stands in
    record { scopes = h.scopes; pattern = h.pattern; occurs = h.occurs; is = is h.scopes h.pattern h.are_scopes h.denotes }

pub ref_refused : {cells : List Cell} {root : ℕ} {outers : List ℕ} {i : ℕ} {name : List ℕ} → IsCell cells i (cell.ref name) → Stands cells root outers i → IsUndefinedIn cells outers name → IsRefusal cells root (Unreadable cause.NoDefinition)
ref_refused {name = name} at stands none number whole denotes =
    has_at IsUndefined denotes stands (λ scopes p are denoted. subst (λ (r : Composed). IsUndefined scopes r) (sym (denoted_by (cell.ref name) at denoted)) (undefined_here name are none))

pub parent_ref_refused : {cells : List Cell} {root : ℕ} {outers : List ℕ} {i : ℕ} {name : List ℕ} → IsCell cells i (cell.parent_ref name) → Stands cells root outers i → IsUndefinedOutside cells outers name → IsRefusal cells root (Unreadable cause.NoDefinition)
parent_ref_refused {name = name} at stands none number whole denotes =
    has_at IsUndefined denotes stands (λ scopes p are denoted. subst (λ (r : Composed). IsUndefined scopes r) (sym (denoted_by (cell.parent_ref name) at denoted)) (undefined_outside name are none))

pub start_refused : {cells : List Cell} {root : ℕ} {outers : List ℕ} {i : ℕ} {clauses : List Clause} → IsCell cells i (cell.grammar clauses) → Stands cells root outers i → clauses_of defined.Start clauses ≡ [] → IsRefusal cells root (Unreadable cause.NoStart)
start_refused {clauses = clauses} at stands none number whole denotes =
    has_at HasNoStart denotes stands (λ scopes p are denoted.
    let grammar = denoted_by (cell.grammar clauses) at denoted in
    subst (λ (r : Composed). HasNoStart scopes r) (sym grammar.2) (defined_none defined.Start grammar.1 none))

pub clash_refused : {cells : List Cell} {root : ℕ} {outers : List ℕ} {i : ℕ} {clauses : List Clause} (name : Defined) → IsCell cells i (cell.grammar clauses) → Stands cells root outers i → clash (combines_of (clauses_of name clauses)) ≡ true → IsRefusal cells root (Unreadable cause.CombineClash)
clash_refused {clauses = clauses} name at stands clashes number whole denotes =
    has_at HasClash denotes stands (λ scopes p are denoted.
    let grammar = denoted_by (cell.grammar clauses) at denoted in
    subst (λ (r : Composed). HasClash scopes r) (sym grammar.2) (name, ap clash (combines_denoted name grammar.1) ∙ clashes))

-- ---- combined definitions by scopes

-- what is found under a name in a scope
abbrev FindsIn : List Cell → List Combined → List ℕ → List ℕ → Option ℕ → Type 0
FindsIn cells combined outers name (Some number) = IsCombinedIn cells combined outers (defined.Name name) number
FindsIn cells combined outers name None = IsUndefinedIn cells outers name

abbrev FindsOutside : List Cell → List Combined → List ℕ → List ℕ → Option ℕ → Type 0
FindsOutside cells combined outers name (Some number) = IsCombinedOutside cells combined outers (defined.Name name) number
FindsOutside cells combined outers name None = IsUndefinedOutside cells outers name

finds_kept : (cells : List Cell) (combined : List Combined) (grammar : ℕ) (clauses : List Clause) (outers : List ℕ) (name : List ℕ) (kept : Option ℕ) → IsCell cells grammar (cell.grammar clauses) → IsKept cells combined grammar clauses (defined.Name name) kept → FindsIn cells combined (grammar ∷ outers) name kept
finds_kept cells combined grammar clauses outers name (Some number) at h = h
finds_kept cells combined grammar clauses outers name None at h = (clauses, at, h)

pub finds_in : {cells : List Cell} {combined : List Combined} {tables : List Table} {scope : Scope} {outers : List ℕ} (name : List ℕ) → IsScope cells combined tables scope outers → FindsIn cells combined outers name (combined_in tables scope name)
finds_in name outside = tt
finds_in {cells = cells} {combined = combined} name (inside {grammar = grammar} {table = table} {outers = outers} at is_table more) =
    subst (λ (found : Option Table). FindsIn cells combined (grammar ∷ outers) name (combined_of_table name found)) (sym at)
    (finds_kept cells combined grammar is_table.clauses outers name (kept_named table.combined name) is_table.is_grammar (is_table.kept (defined.Name name)))

finds_around : (cells : List Cell) (combined : List Combined) (outers : List ℕ) (inner : ℕ) (name : List ℕ) (found : Option ℕ) → FindsIn cells combined outers name found → FindsOutside cells combined (inner ∷ outers) name found
finds_around cells combined outers inner name (Some number) h = h
finds_around cells combined outers inner name None h = h

pub finds_outside : {cells : List Cell} {combined : List Combined} {tables : List Table} {scope : Scope} {outers : List ℕ} (name : List ℕ) → IsScope cells combined tables scope outers → FindsOutside cells combined outers name (combined_in tables (outer_in tables scope) name)
finds_outside name outside = tt
finds_outside {cells = cells} {combined = combined} {tables = tables} name (inside {grammar = grammar} {table = table} {outers = outers} at is_table more) =
    subst (λ (found : Option Table). FindsOutside cells combined (grammar ∷ outers) name (combined_in tables (outer_of found) name)) (sym at)
    (finds_around cells combined outers grammar name (combined_in tables table.outer name) (finds_in name more))

-- ---- one more node, by its cell

keeps_all_combinations : (combined : List Combined) → KeepsCombinations combined combined
keeps_all_combinations combined = record { stays = λ number combination h. h }

keeps_all_tables : (tables : List Table) → KeepsTables tables tables
keeps_all_tables tables = record { stays = λ k table h. h }

keeps_first : (old new : List Combined) → KeepsFirst (length old) old new → KeepsCombinations old new
keeps_first old new kept = record { stays = λ number combination h. kept number (slice_get_within old number combination h) ∙ h }

gathered_kept : (cells : List Cell) (i : ℕ) (combined : List Combined) (clauses : List Clause) (first : ℕ) (name : Defined) (kept : Option ℕ) → IsCell cells i (cell.grammar clauses) → IsGatheredAs first clauses combined name kept → IsKept cells combined i clauses name kept
gathered_kept cells i combined clauses first name None at h = h
gathered_kept cells i combined clauses first name (Some number) at h =
    record { clauses = clauses; is_grammar = at; is_defined = h.3.some; combination = h.0; there = h.2; bodies_are = h.3.bodies_are; combine_is = h.3.signs.combine_is }

no_clash_as : (combined : List Combined) (clauses : List Clause) (first : ℕ) (name : Defined) (kept : Option ℕ) → IsGatheredAs first clauses combined name kept → clash (combines_of (clauses_of name clauses)) ≡ false
no_clash_as combined clauses first name None h = ap (λ (cs : List Clause). clash (combines_of cs)) h
no_clash_as combined clauses first name (Some number) h = h.3.signs.no_clash

old_combination : {cells : List Cell} {root : ℕ} {old new : List Combined} {number : ℕ} → KeepsCombinations old new → IsOfGrammar cells root old number → IsOfGrammar cells root new number
old_combination keeps h = record { grammar = h.grammar; name = h.name; stands = h.stands; is_combined = combined_on keeps h.is_combined }

module _ {cells : List Cell} {root i : ℕ} where
  -- a node that is neither a reference nor a grammar
  plain_taken : {old new : Findings} {scope : Scope} (c : Cell) → ((outers : List ℕ) → within c i outers ≡ outers) → ((combined : List Combined) (outers : List ℕ) (link : Target) → IsTaken cells combined outers i link c) → AreWellFormed cells root → IsMidway cells root (i + 1) old → IsCell cells i c → IsPosted cells root old scope i → scope ≢ Nowhere → new ≡ with_given (inner_nodes c) scope old → IsMidway cells root i new
  plain_taken {old = old} {scope = scope} c same nothing formed midway at posted some is =
      subst (λ (f : Findings). IsMidway cells root i f) (sym is) (next_taken {c = c} {scope = scope} {new = with_given (inner_nodes c) scope old} formed midway at posted.stands (record {
        some = some;
        scopes_are = refl;
        is_scope = subst (λ outers. IsScope cells old.combined old.tables scope outers) (sym (same posted.outers)) posted.is_scope;
        all_links = refl;
        other_links = λ k other. refl;
        combined = keeps_all_combinations old.combined;
        tables = keeps_all_tables old.tables;
        taken = nothing old.combined posted.outers (get_or old.links i Nothing);
        each_combined = midway.each_combined;
      }))

  -- a reference
  linked : {old : Findings} {scope : Scope} (c : Cell) (link : ℕ) → ((outers : List ℕ) → within c i outers ≡ outers) → inner_nodes c ≡ [] → AreWellFormed cells root → IsMidway cells root (i + 1) old → IsCell cells i c → (posted : IsPosted cells root old scope i) → scope ≢ Nowhere → IsTaken cells old.combined posted.outers i (Definitions link) c → IsMidway cells root i (with_link i (Definitions link) old)
  linked {old = old} {scope = scope} c link same none formed midway at posted some taken =
      let lt : i < length old.links = omega (arith, slice_get_within cells i c at, midway.all_links) in
      next_taken {c = c} {scope = scope} {new = with_link i (Definitions link) old} formed midway at posted.stands (record {
        some = some;
        scopes_are = ap (λ nodes. given nodes scope old.scopes) (sym none);
        is_scope = subst (λ outers. IsScope cells old.combined old.tables scope outers) (sym (same posted.outers)) posted.is_scope;
        all_links = length-set old.links i (Definitions link);
        other_links = λ k other. get_or-set_other old.links i k (Definitions link) Nothing other;
        combined = keeps_all_combinations old.combined;
        tables = keeps_all_tables old.tables;
        taken = subst (λ (l : Target). IsTaken cells old.combined posted.outers i l c) (sym (get_or-set_same old.links i (Definitions link) Nothing lt)) taken;
        each_combined = midway.each_combined;
      })

  ref_taken : {A : Type 0} {old : Findings} {scope : Scope} (new : Findings) (name : List ℕ) → AreWellFormed cells root → IsMidway cells root (i + 1) old → IsCell cells i (cell.ref name) → (posted : IsPosted cells root old scope i) → scope ≢ Nowhere → (found : Option ℕ) → FindsIn cells old.combined posted.outers name found → (result : Result A SchemaFault) → Links i found old new result → OkOrRefused cells root (λ done. IsMidway cells root i new) result
  ref_taken new name formed midway at posted some (Some number) finds (Ok done) is =
      subst (λ (f : Findings). IsMidway cells root i f) (sym is) (linked (cell.ref name) number (λ outers. refl) refl formed midway at posted some (tt, finds))
  ref_taken new name formed midway at posted some (Some number) finds (Err fault) is = absurd is
  ref_taken new name formed midway at posted some None finds (Ok done) is = absurd is
  ref_taken new name formed midway at posted some None finds (Err (Unreadable cause.NoDefinition)) is = ref_refused at posted.stands finds
  ref_taken new name formed midway at posted some None finds (Err fault) is = absurd is

  parent_ref_taken : {A : Type 0} {old : Findings} {scope : Scope} (new : Findings) (name : List ℕ) → AreWellFormed cells root → IsMidway cells root (i + 1) old → IsCell cells i (cell.parent_ref name) → (posted : IsPosted cells root old scope i) → scope ≢ Nowhere → (found : Option ℕ) → FindsOutside cells old.combined posted.outers name found → (result : Result A SchemaFault) → Links i found old new result → OkOrRefused cells root (λ done. IsMidway cells root i new) result
  parent_ref_taken new name formed midway at posted some (Some number) finds (Ok done) is =
      subst (λ (f : Findings). IsMidway cells root i f) (sym is) (linked (cell.parent_ref name) number (λ outers. refl) refl formed midway at posted some (tt, finds))
  parent_ref_taken new name formed midway at posted some (Some number) finds (Err fault) is = absurd is
  parent_ref_taken new name formed midway at posted some None finds (Ok done) is = absurd is
  parent_ref_taken new name formed midway at posted some None finds (Err (Unreadable cause.NoDefinition)) is = parent_ref_refused at posted.stands finds
  parent_ref_taken new name formed midway at posted some None finds (Err fault) is = absurd is

  -- a grammar
  grammar_next : {old new : Findings} {scope : Scope} (clauses : List Clause) → IsMidway cells root (i + 1) old → IsCell cells i (cell.grammar clauses) → (posted : IsPosted cells root old scope i) → HasTable i scope clauses old new → IsNext cells root i (cell.grammar clauses) posted.outers (In (length old.tables)) old new
  grammar_next {old = old} {new = new} {scope = scope} clauses midway at posted h =
      let lt : i < length old.links = omega (arith, slice_get_within cells i (cell.grammar clauses) at, midway.all_links) in
      let combined = keeps_first old.combined new.combined h.kept in
      let table : Table = record { outer = scope; combined = h.names } in
      let tables : KeepsTables old.tables new.tables = record { stays = λ k t there. ap (λ (ts : List Table). slice_get ts k) h.tables_are ∙ stays_behind old.tables (table ∷ []) k t there } in
      let kept : (name : Defined) → IsKept cells new.combined i clauses name (kept_for h.names name) = λ name. gathered_kept cells i new.combined clauses (length old.combined) name (kept_for h.names name) at (h.gathered.gathered name) in
      record {
        some = λ e. absurd cc;
        scopes_are = h.scopes_are;
        is_scope = inside {table = table} (ap (λ (ts : List Table). slice_get ts (length old.tables)) h.tables_are ∙ last_there old.tables table) (record { clauses = clauses; is_grammar = at; kept = kept }) (scope_on combined tables posted.is_scope);
        all_links = ap length h.links_are ∙ length-set old.links i (Definitions h.start);
        other_links = λ k other. ap (λ (ls : List Target). get_or ls k Nothing) h.links_are ∙ get_or-set_other old.links i k (Definitions h.start) Nothing other;
        combined = combined;
        tables = tables;
        taken = subst (λ (link : Target). IsTaken cells new.combined posted.outers i link (cell.grammar clauses)) (sym (ap (λ (ls : List Target). get_or ls i Nothing) h.links_are ∙ get_or-set_same old.links i (Definitions h.start) Nothing lt)) (
          tt,
          subst (λ (k : Option ℕ). IsKept cells new.combined i clauses defined.Start k) h.start_is (kept defined.Start),
          λ name. no_clash_as new.combined clauses (length old.combined) name (kept_for h.names name) (h.gathered.gathered name),
        );
        each_combined = λ number within. elim (cases_lt number (length old.combined)) [
          | inl before ↦ old_combination combined (midway.each_combined number before)
          | inr behind ↦
              let name = h.gathered.each number behind within in
              record { grammar = i; name = name.0; stands = (posted.outers, posted.stands); is_combined = subst (λ (k : Option ℕ). IsKept cells new.combined i clauses name.0 k) name.1 (kept name.0) }
        ];
      }

  grammar_taken : {A : Type 0} {old : Findings} {scope : Scope} (new : Findings) (clauses : List Clause) → AreWellFormed cells root → IsMidway cells root (i + 1) old → IsCell cells i (cell.grammar clauses) → IsPosted cells root old scope i → (result : Result A SchemaFault) → TakesGrammar i scope clauses old new result → OkOrRefused cells root (λ done. IsMidway cells root i new) result
  grammar_taken new clauses formed midway at posted (Ok done) h = next_taken formed midway at posted.stands (grammar_next clauses midway at posted h)
  grammar_taken new clauses formed midway at posted (Err NoMemory) h = tt
  grammar_taken new clauses formed midway at posted (Err (Unreadable cause.NoStart)) h = start_refused at posted.stands h
  grammar_taken new clauses formed midway at posted (Err (Unreadable cause.CombineClash)) h = clash_refused h.0 at posted.stands h.1
  grammar_taken new clauses formed midway at posted (Err other) h = absurd h

  -- any node that stands in the schema
  pub cell_taken : {A : Type 0} {old : Findings} {scope : Scope} (new : Findings) (c : Cell) → AreWellFormed cells root → IsMidway cells root (i + 1) old → IsCell cells i c → IsPosted cells root old scope i → scope ≢ Nowhere → (result : Result A SchemaFault) → TakesCell i scope c old new result → OkOrRefused cells root (λ done. IsMidway cells root i new) result
  cell_taken new (cell.ref name) formed midway at posted some result h = ref_taken new name formed midway at posted some _ (finds_in name posted.is_scope) result h
  cell_taken new (cell.parent_ref name) formed midway at posted some result h = parent_ref_taken new name formed midway at posted some _ (finds_outside name posted.is_scope) result h
  cell_taken new (cell.grammar clauses) formed midway at posted some result h = grammar_taken new clauses formed midway at posted result h
  cell_taken new (cell.element class part) formed midway at posted some (Ok done) h = plain_taken (cell.element class part) (λ outers. refl) (λ combined outers link. tt) formed midway at posted some h
  cell_taken new (cell.attribute class part) formed midway at posted some (Ok done) h = plain_taken (cell.attribute class part) (λ outers. refl) (λ combined outers link. tt) formed midway at posted some h
  cell_taken new (cell.listed part) formed midway at posted some (Ok done) h = plain_taken (cell.listed part) (λ outers. refl) (λ combined outers link. tt) formed midway at posted some h
  cell_taken new cell.empty formed midway at posted some (Ok done) h = plain_taken cell.empty (λ outers. refl) (λ combined outers link. tt) formed midway at posted some h
  cell_taken new cell.any_text formed midway at posted some (Ok done) h = plain_taken cell.any_text (λ outers. refl) (λ combined outers link. tt) formed midway at posted some h
  cell_taken new cell.not_allowed formed midway at posted some (Ok done) h = plain_taken cell.not_allowed (λ outers. refl) (λ combined outers link. tt) formed midway at posted some h
  cell_taken new (cell.value type text) formed midway at posted some (Ok done) h = plain_taken (cell.value type text) (λ outers. refl) (λ combined outers link. tt) formed midway at posted some h
  cell_taken new (cell.typed type params part) formed midway at posted some (Ok done) h = plain_taken (cell.typed type params part) (λ outers. refl) (λ combined outers link. tt) formed midway at posted some h
  cell_taken new (cell.one_or_more part) formed midway at posted some (Ok done) h = plain_taken (cell.one_or_more part) (λ outers. refl) (λ combined outers link. tt) formed midway at posted some h
  cell_taken new (cell.joined sign first second) formed midway at posted some (Ok done) h = plain_taken (cell.joined sign first second) (λ outers. refl) (λ combined outers link. tt) formed midway at posted some h
  cell_taken new c formed midway at posted some (Err fault) h = absurd h
