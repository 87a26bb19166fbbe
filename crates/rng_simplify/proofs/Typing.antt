-- Types of nodes, and what is taken from them.
use Rattle.std.proofs.Common.{◌≡◌, refl, sym, ap, ◌∙◌, subst, ℕ, ◌+◌, ◌<◌, ◌≤◌, Bool, true, false, inl, inr, ◌⊎◌, List, [], ◌∷◌, ◌++◌, length, map, take, get_or, set, slice_get, Option, Some, None, Result, Ok, Err, Contains, IsTrue, arith}
use Rattle.std.specs.Prelude.{slice_index, slice_set, if◌then◌else◌, ◌==◌}
use Rattle.std.specs.List.{AllByRecursion, list_all}
use Rattle.std.specs.Option.{option_map, option_and_then}
use Rattle.std.specs.Str.{IsUtf8, is_utf8, bytes_eq}
use Rattle.std.proofs.lemmas.Bool.{cases_lt}
use Rattle.std.proofs.lemmas.List.{append_assoc, append-nil, length-map, map-append, take_more, get_or-set_same, get_or-set_other, length-set}
use Rattle.std.proofs.lemmas.Option.{same_Some, slice_get_within, slice_get-map, slice_get-get_or, get_or_from_slice_get}
use Rattle.std.proofs.lemmas.Slice.Eq.{bytes_eq-Decides}
use Rattle.std.proofs.lemmas.Str.{is_utf8-from_IsUtf8}
use Rattle.nx_base.specs.declared.cause.Cause.TheVariants as cause
use Rattle.rnc_parse.specs.declared.surface.TypeName.{TypeName}
use Rattle.rnc_parse.specs.declared.surface.Param.{Param}
use Rattle.rng_types.specs.declared.datatype.Datatype.{Datatype}
use Rattle.rng_types.specs.declared.datatype.Except.{Except}
use Rattle.rng_types.specs.declared.datatype.Except.TheVariants.{Own, BuiltinString, BuiltinToken}
use Rattle.rng_types.specs.declared.datatype.Param.{Param as TypeParam}
use Rattle.rng_types.specs.declared.fault.TypeFault.{TypeFault}
use Rattle.rng_types.specs.declared.fault.TypeFault.TheVariants as type_fault
use Rattle.rng_types.specs.Naming.{is_taken, is_literal, type_with, type_of_found, type_of}
use Rattle.rng_types.specs.Table.{TypeRow}
use Rattle.rng_types.specs.Types.{Accepts}
use Rattle.rng_core.specs.Soundness.{IsSoundExcept}
use Rattle.rng_simplify.specs.declared.fault.SchemaFault.{SchemaFault}
use Rattle.rng_simplify.specs.declared.fault.SchemaFault.TheVariants as fault
use Rattle.rng_simplify.specs.declared.form.Forms.{Forms}
use Rattle.rng_simplify.specs.declared.node.Node.{Node}
use Rattle.rng_simplify.specs.declared.node.Node.TheVariants as node
use Rattle.rng_simplify.specs.declared.node.Sign.{Sign}
use Rattle.rng_simplify.specs.declared.node.Sign.TheVariants as sign
use Rattle.rng_simplify.specs.declared.shape.Shape.{Shape}
use Rattle.rng_simplify.specs.declared.shape.Shape.TheVariants as shape
use Rattle.rng_simplify.specs.declared.shape.Size.{Size}
use Rattle.rng_simplify.specs.declared.types.NodeType.{NodeType}
use Rattle.rng_simplify.specs.Broken.{IsForeign}
use Rattle.rng_simplify.specs.Cells.{Cell, cell_of}
use Rattle.rng_simplify.specs.Cells as cell
use Rattle.rng_simplify.specs.Datatypes.{params_of, datatype_of, AreExcepts, no_except, own_value, own_value_beside, string_value, token_value, builtin_string, builtin_token}
use Rattle.rng_simplify.specs.CellMeanings.{IsCell}
use Rattle.rng_simplify.specs.Forms.{Form, Value, values_of}
use Rattle.rng_simplify.specs.Forms as form
use Rattle.rng_simplify.specs.NodeForms.{IsKnown}
use Rattle.rng_simplify.specs.Shown.{joined_form, value_in, form_by, form_at, IsBehindParts, IsOfSchema, stopped, IsSizeAt}
use Rattle.rng_simplify.specs.CellTexts.{IsText, AreTexts}
use Rattle.rng_simplify.specs.NodeTypes.{IsRefusalOf, Names, value_of, IsValue, AreValues, IsListed, HasValues, IsTakenBehind, TakesBehind, AreTakenFrom, TakesFrom, HasManyValues, Takes, IsTypeOf, HasNoType, MakesType, known_at, AreTypesBefore, IsTypeSet, SetsType, MakesTypes}
use Rattle.rng_simplify.specs.NodePlaces.{cell_parts}
use Rattle.rng_simplify.proofs.Forming.{before_next, none_before, cell_there}
use Rattle.rng_simplify.proofs.Nodes.{in_first}
use Rattle.rng_simplify.proofs.Showing.{shows_by_parts, before_or_last}
use Rattle.rng_simplify.proofs.Simplifying.{same_values}

-- ---- names

params_behind : (params : List Param) (last : Param) → params_of (params ++ last ∷ []) ≡ params_of params ++ record { name = last.name; value = last.value } ∷ []
params_behind [] last = refl
params_behind (first ∷ params) last = ap (λ more. record { name = first.name; value = first.value } ∷ more) (params_behind params last)

-- one more param
pub next_param : (params : List Param) (index : ℕ) (p : Param) (copies new : List TypeParam) (name value : List ℕ) → index < length params → p ≡ get_or params index p → name ≡ p.name → value ≡ p.value → copies ≡ params_of (take index params) → new ≡ copies ++ record { name = name; value = value } ∷ [] → new ≡ params_of (take (index + 1) params)
next_param params index p copies new name value less is name_is value_is so_far grows =
    let P : Param → Type 0 = λ q. take (index + 1) params ≡ take index params ++ q ∷ [] in
    let longer : take (index + 1) params ≡ take index params ++ p ∷ [] = subst P (sym is) (take_more params index p less) in
    grows
    ∙ ap (λ cs. cs ++ record { name = name; value = value } ∷ []) so_far
    ∙ ap (λ n. params_of (take index params) ++ record { name = n; value = value } ∷ []) name_is
    ∙ ap (λ v. params_of (take index params) ++ record { name = p.name; value = v } ∷ []) value_is
    ∙ sym (params_behind (take index params) p)
    ∙ ap params_of (sym longer)

not_many : (taken literal : Bool) (datatype : Datatype) → ◌≡◌ {A = Result Datatype TypeFault} (if taken then (if literal then Ok datatype else Err type_fault.BadParam) else Err type_fault.UnknownParam) (Err type_fault.TooManyExcepts) → ⊥
not_many true true datatype h = cc
not_many true false datatype h = cc
not_many false literal datatype h = cc

never_found : (o : Option TypeRow) (params : List TypeParam) → type_of_found o params ≡ Err type_fault.TooManyExcepts → ⊥
never_found None params h = cc
never_found (Some row) params h = not_many (list_all (is_taken row) params) (list_all (is_literal row) params) (type_with row params) h

-- a name is never refused for its excepts
pub never_too_many : (library name : List ℕ) (params : List TypeParam) → type_of library name params ≡ Err type_fault.TooManyExcepts → ⊥
never_too_many library name params h = never_found _ params h

-- a type is the built-in one of the name
pub is_built_in : (type : TypeName) (local name text : List ℕ) (empty same : Bool) → empty ≡ (length type.library == 0) → empty ≡ true → name ≡ type.name → text ≡ local → same ≡ bytes_eq name text → (IsTrue same → type ≡ record { library = []; name = local }) × (type ≡ record { library = []; name = local } → IsTrue same)
is_built_in type local name text empty same none is_empty name_is text_is is =
    let decides = bytes_eq-Decides name text in
    let no_library : type.library ≡ [] = no_bytes type.library (sym none ∙ is_empty) in (
      (λ h. let equal : name ≡ text = decides.0 (sym is ∙ h) in made type.library type.name no_library (sym name_is ∙ equal ∙ text_is)),
      (λ e. is ∙ decides.1 (name_is ∙ ap (λ (t : TypeName). t.name) e ∙ sym text_is)),
    )
  where
    no_bytes : (xs : List ℕ) → (length xs == 0) ≡ true → xs ≡ []
    no_bytes [] h = refl
    no_bytes (x ∷ xs) h = absurd (grind arith)

    made : (library found : List ℕ) → library ≡ [] → found ≡ local → ◌≡◌ {A = TypeName} (record { library = library; name = found }) (record { library = []; name = local })
    made library found e k =
        let step : ◌≡◌ {A = TypeName} (record { library = library; name = found }) (record { library = []; name = found }) = ap (λ l. let t : TypeName = record { library = l; name = found } in t) e in
        let last : ◌≡◌ {A = TypeName} (record { library = []; name = found }) (record { library = []; name = local }) = ap (λ n. let t : TypeName = record { library = []; name = n } in t) k in
        step ∙ last

-- ---- what a value takes

is_text : (text : List ℕ) → IsUtf8 text → IsTrue (is_utf8 text)
is_text text utf8 = is_utf8-from_IsUtf8 text utf8

abbrev a_value : TypeName → List ℕ → Value
a_value type text = record { type = type; text = text }

module _ (datatype : Datatype) (text copy : List ℕ) (old new : List Except) where
  pub own_taken : (type : TypeName) → Accepts datatype text → IsUtf8 text → copy ≡ text → new ≡ old ++ Own copy ∷ [] → IsTakenBehind type datatype (a_value type text) old new
  own_taken type accepted utf8 same grows = record {
    added = Own text ∷ [];
    grows = grows ∙ ap (λ t. old ++ Own t ∷ []) same;
    takes = own_value accepted no_except;
    sound = ((is_text text utf8, accepted), tt);
  }

  pub own_beside : (type : TypeName) → (Accepts datatype text → false ≡ true) → new ≡ old → IsTakenBehind type datatype (a_value type text) old new
  own_beside type refused same = record {
    added = [];
    grows = same ∙ sym (append-nil old);
    takes = own_value_beside (λ h. let never = refused h in cc) no_except;
    sound = tt;
  }

  pub string_taken : (type value : TypeName) → (value ≡ type → false ≡ true) → value ≡ builtin_string → IsUtf8 text → copy ≡ text → new ≡ old ++ BuiltinString copy ∷ [] → IsTakenBehind type datatype (a_value value text) old new
  string_taken type value other is utf8 same grows =
      let P : TypeName → Type 0 = λ t. IsTakenBehind type datatype (a_value t text) old new in
      subst P (sym is) (record {
        added = BuiltinString text ∷ [];
        grows = grows ∙ ap (λ t. old ++ BuiltinString t ∷ []) same;
        takes = string_value (λ e. let h = other (is ∙ sym e) in cc) no_except;
        sound = (is_text text utf8, tt);
      })

  pub token_taken : (type value : TypeName) → (value ≡ type → false ≡ true) → value ≡ builtin_token → IsUtf8 text → copy ≡ text → new ≡ old ++ BuiltinToken copy ∷ [] → IsTakenBehind type datatype (a_value value text) old new
  token_taken type value other is utf8 same grows =
      let P : TypeName → Type 0 = λ t. IsTakenBehind type datatype (a_value t text) old new in
      subst P (sym is) (record {
        added = BuiltinToken text ∷ [];
        grows = grows ∙ ap (λ t. old ++ BuiltinToken t ∷ []) same;
        takes = token_value (λ e. let h = other (is ∙ sym e) in cc) no_except;
        sound = (is_text text utf8, tt);
      })

  -- a value of the type itself
  pub same_taken : (type value : TypeName) (result : Result (Unit {0}) SchemaFault) → value ≡ type → TakesBehind type datatype (a_value type text) old new result → TakesBehind type datatype (a_value value text) old new result
  same_taken type value result is taken =
      let P : TypeName → Type 0 = λ t. TakesBehind type datatype (a_value t text) old new result in
      subst P (sym is) taken

-- ---- values by their nodes

value_there : (nodes : List Node) (i : ℕ) (n : Node) (type : TypeName) (text : List ℕ) → i < length nodes → n ≡ get_or nodes i n → n ≡ node.Value type text → IsCell (map cell_of nodes) i (cell.value type text)
value_there nodes i n type text within is same = cell_there nodes i n within is ∙ ap (λ m. Some (cell_of m)) same

value_within : (nodes : List Node) (i : ℕ) → IsValue (map cell_of nodes) i → i < length nodes
value_within nodes i value =
    let inside = slice_get_within (map cell_of nodes) i _ value.is_cell in
    let all = length-map nodes cell_of in
    omega arith

pub text_of_value : (nodes : List Node) (i : ℕ) (n : Node) (type : TypeName) (text : List ℕ) → AreTexts (map cell_of nodes) → IsValue (map cell_of nodes) i → n ≡ get_or nodes i n → n ≡ node.Value type text → IsUtf8 text
text_of_value nodes i n type text texts value is same = (texts.each_is i (cell.value type text) (value_there nodes i n type text (value_within nodes i value) is same)).2

pub takes_value : (nodes : List Node) (i : ℕ) (n : Node) (type own : TypeName) (text : List ℕ) (datatype : Datatype) (old new : List Except) (result : Result (Unit {0}) SchemaFault) → IsValue (map cell_of nodes) i → n ≡ get_or nodes i n → n ≡ node.Value type text → TakesBehind own datatype (a_value type text) old new result → TakesBehind own datatype (value_of (map cell_of nodes) i) old new result
takes_value nodes i n type own text datatype old new result value is same taken =
    let P : Option Cell → Type 0 = λ o. TakesBehind own datatype (value_in o) old new result in
    subst P (sym (value_there nodes i n type text (value_within nodes i value) is same)) taken

only_values : (n : Node) (type : TypeName) (text : List ℕ) → cell_of n ≡ cell.value type text → ((t : TypeName) (x : List ℕ) → n ≡ node.Value t x → ⊥) → ⊥
only_values (node.Element class part) type text h none = cc
only_values (node.Attribute class part) type text h none = cc
only_values (node.List part) type text h none = cc
only_values (node.Ref name) type text h none = cc
only_values (node.ParentRef name) type text h none = cc
only_values node.Empty type text h none = cc
only_values node.Text type text h none = cc
only_values node.NotAllowed type text h none = cc
only_values (node.Value t x) type text h none = none t x refl
only_values (node.Typed t params part) type text h none = cc
only_values (node.Grammar clauses) type text h none = cc
only_values (node.OneOrMore part) type text h none = cc
only_values (node.Joined by first second) type text h none = cc

pub is_value_node : (nodes : List Node) (i : ℕ) (n : Node) → IsValue (map cell_of nodes) i → n ≡ get_or nodes i n → ((t : TypeName) (x : List ℕ) → n ≡ node.Value t x → ⊥) → ⊥
is_value_node nodes i n value is none =
    only_values n value.type value.text (same_Some _ _ (sym (cell_there nodes i n (value_within nodes i value) is) ∙ value.is_cell)) none

-- a refusal of a name is the refusal that it has
pub name_refused : (type : TypeName) (params : List Param) (why : TypeFault) (refusal : SchemaFault) → ((why ≡ type_fault.NoMemory → ⊥) → datatype_of type params ≡ Err why) → IsRefusalOf why refusal → Names type params (Err refusal)
name_refused type params type_fault.UnknownType refusal is refused = let P : SchemaFault → Type 0 = λ r. Names type params (Err r) in subst P (sym refused) (is (λ e. cc))
name_refused type params type_fault.UnknownParam refusal is refused = let P : SchemaFault → Type 0 = λ r. Names type params (Err r) in subst P (sym refused) (is (λ e. cc))
name_refused type params type_fault.BadParam refusal is refused = let P : SchemaFault → Type 0 = λ r. Names type params (Err r) in subst P (sym refused) (is (λ e. cc))
name_refused type params type_fault.NoMemory refusal is refused = let P : SchemaFault → Type 0 = λ r. Names type params (Err r) in subst P (sym refused) tt
name_refused type params type_fault.TooManyExcepts refusal is refused = absurd refused

-- ---- what values take

excepts_behind : (type : TypeName) (datatype : Datatype) {values : List Value} {excepts : List Except} → AreExcepts type datatype values excepts → (v : Value) (added : List Except) → AreExcepts type datatype (v ∷ []) added → AreExcepts type datatype (values ++ v ∷ []) (excepts ++ added)
excepts_behind type datatype no_except v added takes = takes
excepts_behind type datatype (own_value accepted more) v added takes = own_value accepted (excepts_behind type datatype more v added takes)
excepts_behind type datatype (own_value_beside refused more) v added takes = own_value_beside refused (excepts_behind type datatype more v added takes)
excepts_behind type datatype (string_value other more) v added takes = string_value other (excepts_behind type datatype more v added takes)
excepts_behind type datatype (token_value other more) v added takes = token_value other (excepts_behind type datatype more v added takes)

few_excepts : (type : TypeName) (datatype : Datatype) {values : List Value} {excepts : List Except} → AreExcepts type datatype values excepts → length excepts ≤ length values
few_excepts type datatype no_except = omega arith
few_excepts type datatype (own_value accepted more) = let rest = few_excepts type datatype more in omega arith
few_excepts type datatype (own_value_beside refused more) = let rest = few_excepts type datatype more in omega arith
few_excepts type datatype (string_value other more) = let rest = few_excepts type datatype more in omega arith
few_excepts type datatype (token_value other more) = let rest = few_excepts type datatype more in omega arith

all_behind : {A : Type 0} → (P : A → Type 0) (xs ys : List A) → AllByRecursion P xs → AllByRecursion P ys → AllByRecursion P (xs ++ ys)
all_behind P [] ys h k = k
all_behind P (x ∷ xs) ys h k = (h.0, all_behind P xs ys h.1 k)

pub none_taken : (cells : List Cell) (type : TypeName) (datatype : Datatype) (excepts : List Except) → excepts ≡ [] → AreTakenFrom cells type datatype [] excepts
none_taken cells type datatype excepts none =
    let P : List Except → Type 0 = AreTakenFrom cells type datatype [] in
    subst P (sym none) (record { takes = no_except; few = omega arith; sound = tt })

module _ (cells : List Cell) (type : TypeName) (datatype : Datatype) (values : List ℕ) (index : ℕ) (less : index < length values) where
  pub item_is_value : AreValues cells values → IsValue cells (slice_index values index)
  item_is_value are = are.each_is index (slice_index values index) (slice_get-get_or values index 0 less)

  pub one_more_taken : (old new : List Except) → AreTakenFrom cells type datatype (take index values) old → IsTakenBehind type datatype (value_of cells (slice_index values index)) old new → AreTakenFrom cells type datatype (take (index + 1) values) new
  one_more_taken old new taken next =
      let P : List ℕ → Type 0 = λ some. AreTakenFrom cells type datatype some new in
      let Q : List Except → Type 0 = AreTakenFrom cells type datatype (take index values ++ slice_index values index ∷ []) in
      let R : List Value → Type 0 = λ vs. AreExcepts type datatype vs (old ++ next.added) in
      let takes : AreExcepts type datatype (map (value_of cells) (take index values ++ slice_index values index ∷ [])) (old ++ next.added)
      = subst R (sym (map-append (value_of cells) (take index values) (slice_index values index ∷ []))) (excepts_behind type datatype taken.takes (value_of cells (slice_index values index)) next.added next.takes) in
      let few = few_excepts type datatype takes in
      let all = length-map (take index values ++ slice_index values index ∷ []) (value_of cells) in
      subst P (sym (take_more values index 0 less)) (subst Q (sym next.grows) (record {
        takes = takes;
        few = omega arith;
        sound = all_behind (IsSoundExcept datatype) old next.added taken.sound next.sound;
      }))

  pub value_refused : (old new : List Except) (why : SchemaFault) → TakesBehind type datatype (value_of cells (slice_index values index)) old new (Err why) → TakesFrom cells type datatype values (Err why)
  value_refused old new (fault.Unreadable cause.UnsupportedExcept) refused = record {
    v = value_of cells (slice_index values index);
    among = value_among values index less;
    not_own = refused.0;
    not_string = refused.1;
    not_token = refused.2;
  }
    where
      value_among : (values : List ℕ) (index : ℕ) → index < length values → Contains (map (value_of cells) values) (value_of cells (slice_index values index))
      value_among values index less =
          let all = length-map values (value_of cells) in
          let there : slice_get (map (value_of cells) values) index ≡ Some (value_of cells (slice_index values index)) = slice_get-map (value_of cells) values index ∙ ap (option_map (value_of cells)) (slice_get-get_or values index 0 less) in
          (index, omega arith, get_or_from_slice_get (map (value_of cells) values) index _ _ there)
  value_refused old new (fault.Unreadable why) refused = absurd refused
  value_refused old new fault.NoMemory refused = tt
  value_refused old new why refused = absurd refused

-- ---- values of shapes

record BothValues (x y : Option (List Value)) (values : List Value) : Type 0 where
  first : List Value
  first_is : x ≡ Some first
  second : List Value
  second_is : y ≡ Some second
  are : first ++ second ≡ values

choice_values : (x y : Option (List Value)) (values : List Value) → option_and_then (λ first. option_map (λ second. first ++ second) y) x ≡ Some values → BothValues x y values
choice_values None y values h = let never : ⊥ = cc in absurd never
choice_values (Some first) None values h = let never : ⊥ = cc in absurd never
choice_values (Some first) (Some second) values h = record { first = first; first_is = refl; second = second; second_is = refl; are = same_Some _ _ h }

no_values_joined : (by : Sign) (p q : Form) (values : List Value) → (by ≡ sign.Choice → ⊥) → values_of (joined_form by p q) ≡ Some values → values ≡ []
no_values_joined sign.Choice p q values other h = absurd (other refl)
no_values_joined sign.Group p q values other h = let never : ⊥ = cc in absurd never
no_values_joined sign.Interleave p q values other h = let never : ⊥ = cc in absurd never

no_values : (cells : List Cell) (taken : ℕ → List Value) (at : ℕ → Form) (s : Shape) (values : List Value) → ((i : ℕ) → s ≡ shape.Value i → ⊥) → ((first second : ℕ) → s ≡ shape.Joined sign.Choice first second → ⊥) → values_of (form_by cells taken at s) ≡ Some values → values ≡ []
no_values cells taken at shape.NotAllowed values one other h = sym (same_Some _ _ h)
no_values cells taken at shape.Empty values one other h = let never : ⊥ = cc in absurd never
no_values cells taken at shape.Text values one other h = let never : ⊥ = cc in absurd never
no_values cells taken at (shape.Value i) values one other h = absurd (one i refl)
no_values cells taken at (shape.Typed i) values one other h = let never : ⊥ = cc in absurd never
no_values cells taken at (shape.Ref n) values one other h = let never : ⊥ = cc in absurd never
no_values cells taken at (shape.List part) values one other h = let never : ⊥ = cc in absurd never
no_values cells taken at (shape.Attribute i part) values one other h = let never : ⊥ = cc in absurd never
no_values cells taken at (shape.OneOrMore part) values one other h = let never : ⊥ = cc in absurd never
no_values cells taken at (shape.Joined by first second) values one other h =
    no_values_joined by (at first) (at second) values (λ is. other first second (ap (λ b. shape.Joined b first second) is)) h

module _ (shapes : List Shape) (number : ℕ) (s : Shape) (there : slice_get shapes number ≡ Some s) (behind : IsBehindParts number s) where
  -- what the form is
  form_is : (cells : List Cell) (taken : ℕ → List Value) → form_at cells taken shapes number ≡ form_by cells taken (form_at cells taken shapes) s
  form_is cells taken = shows_by_parts cells taken shapes number s there behind

  -- a value
  pub one_listed : (i : ℕ) (old new : List ℕ) → s ≡ shape.Value i → new ≡ old ++ i ∷ [] → IsListed shapes number old new
  one_listed i old new is grows = record {
    values_are = λ cells taken values h.
        let whole : form_at cells taken shapes number ≡ form.value (value_of cells i) = form_is cells taken ∙ ap (form_by cells taken (form_at cells taken shapes)) is in
        let one : value_of cells i ∷ [] ≡ values = same_Some _ _ (sym (ap values_of whole) ∙ h) in
        ap (map (value_of cells)) grows ∙ map-append (value_of cells) old (i ∷ []) ∙ ap (λ vs. map (value_of cells) old ++ vs) one;
    each_value = λ cells count are_of values. record {
      each_is = λ place j h.
          let P : List ℕ → Type 0 = λ all. slice_get all place ≡ Some j in
          elim (before_or_last old i place j (subst P grows h)) [
            | inl before ↦ values.each_is place j before
            | inr last ↦
                let Q : Shape → Type 0 = IsOfSchema cells count in
                let cell_is : IsOfSchema cells count (shape.Value i) = subst Q is (are_of.each_is number s there) in
                let R : ℕ → Type 0 = IsValue cells in
                subst R (sym last.1) (record { type = cell_is.0; text = cell_is.1; is_cell = cell_is.2 })
          ];
    };
  }

  -- a choice
  pub both_listed : (first second : ℕ) (old mid new : List ℕ) → s ≡ shape.Joined sign.Choice first second → IsListed shapes first old mid → IsListed shapes second mid new → IsListed shapes number old new
  both_listed first second old mid new is one other = record {
    values_are = λ cells taken values h.
        let whole : form_at cells taken shapes number ≡ form.choice (form_at cells taken shapes first) (form_at cells taken shapes second) = form_is cells taken ∙ ap (form_by cells taken (form_at cells taken shapes)) is in
        let both = choice_values (values_of (form_at cells taken shapes first)) (values_of (form_at cells taken shapes second)) values (sym (ap values_of whole) ∙ h) in
        other.values_are cells taken both.second both.second_is
        ∙ ap (λ vs. vs ++ both.second) (one.values_are cells taken both.first both.first_is)
        ∙ append_assoc (map (value_of cells) old) both.first both.second
        ∙ ap (λ vs. map (value_of cells) old ++ vs) both.are;
    each_value = λ cells count are_of values. other.each_value cells count are_of (one.each_value cells count are_of values);
  }

  -- nothing else has values, but for what is not allowed
  pub none_listed : (old : List ℕ) → ((i : ℕ) → s ≡ shape.Value i → ⊥) → ((first second : ℕ) → s ≡ shape.Joined sign.Choice first second → ⊥) → IsListed shapes number old old
  none_listed old no_value no_choice = record {
    values_are = λ cells taken values h.
        let none : values ≡ [] = no_values cells taken (form_at cells taken shapes) s values no_value no_choice (sym (ap values_of (form_is cells taken)) ∙ h) in
        sym (append-nil (map (value_of cells) old)) ∙ ap (λ vs. map (value_of cells) old ++ vs) (sym none);
    each_value = λ cells count are_of values. values;
  }

-- ---- what is taken by the values of a form

record SomeCounted (o : Option (List Value)) (count : ℕ) : Type 0 where
  values : List Value
  is : o ≡ Some values
  count_is : count ≡ stopped (length values)

some_counted : (o : Option (List Value)) (count : ℕ) → Some count ≡ option_map (λ (values : List Value). stopped (length values)) o → SomeCounted o count
some_counted None count h = let never : ⊥ = cc in absurd never
some_counted (Some values) count h = record { values = values; is = refl; count_is = same_Some _ _ h }

-- a form of known size has so many values
pub record HasCounted (cells : List Cell) (shapes : List Shape) (number count : ℕ) : Type 0 where
  pub values : List Value
  pub has_values : HasValues cells shapes number values
  pub count_is : count ≡ stopped (length values)

pub has_counted : (cells : List Cell) (shapes : List Shape) (number : ℕ) (size : Size) (count : ℕ) → IsSizeAt shapes number size → size.values ≡ Some count → HasCounted cells shapes number count
has_counted cells shapes number size count sized is =
    let none : ℕ → List Value = λ i. [] in
    let known = some_counted (values_of (form_at cells none shapes number)) count (sym is ∙ (sized.sized cells none).values_are) in
    record {
      values = known.values;
      has_values = record { are = λ taken. same_values cells taken none shapes number ∙ known.is };
      count_is = known.count_is;
    }

pub many_values : (cells : List Cell) (shapes : List Shape) (number : ℕ) (size : Size) (count : ℕ) → IsSizeAt shapes number size → size.values ≡ Some count → 128 < count → HasManyValues cells shapes number
many_values cells shapes number size count sized is many =
    let known = has_counted cells shapes number size count sized is in
    record {
      values = known.values;
      has_values = known.has_values;
      many = let counted = known.count_is in omega arith;
    }

pub all_taken : (cells : List Cell) (shapes : List Shape) (type : TypeName) (datatype : Datatype) (number : ℕ) (size : Size) (count : ℕ) (start listed nodes : List ℕ) (result : Result (List Except) SchemaFault) → IsSizeAt shapes number size → size.values ≡ Some count → count ≤ 128 → start ≡ [] → IsListed shapes number start listed → nodes ≡ listed → TakesFrom cells type datatype nodes result → Takes cells shapes type datatype number result
all_taken cells shapes type datatype number size count start listed nodes result sized is few none list_is nodes_are taken =
    let known = has_counted cells shapes number size count sized is in
    let values_are : map (value_of cells) nodes ≡ known.values =
    ap (map (value_of cells)) nodes_are
    ∙ list_is.values_are cells (λ i. []) known.values (known.has_values.are (λ i. []))
    ∙ ap (λ some. map (value_of cells) some ++ known.values) none in
    let P : List Value → Type 0 = λ values. IsForeign type values in
    by_answer known values_are result taken
  where
    by_answer : (known : HasCounted cells shapes number count) → map (value_of cells) nodes ≡ known.values → (result : Result (List Except) SchemaFault) → TakesFrom cells type datatype nodes result → Takes cells shapes type datatype number result
    by_answer known values_are (Ok excepts) taken = record {
      values = known.values;
      has_values = known.has_values;
      takes = let P : List Value → Type 0 = λ values. AreExcepts type datatype values excepts in subst P values_are taken.takes;
      allowed = let counted = known.count_is in omega arith;
      few =
          let all = length-map nodes (value_of cells) in
          let same = ap length values_are in
          let counted = known.count_is in
          let each = taken.few in
          omega arith;
      sound = taken.sound;
    }
    by_answer known values_are (Err (fault.Unreadable cause.UnsupportedExcept)) taken =
        inr (record { values = known.values; has_values = known.has_values; foreign = let P : List Value → Type 0 = IsForeign type in subst P values_are taken })
    by_answer known values_are (Err fault.NoMemory) taken = tt
    by_answer known values_are (Err (fault.Unreadable why)) taken = absurd taken
    by_answer known values_are (Err why) taken = absurd taken

-- ---- types of nodes

-- a part of a type is known
pub part_known : (shapes : List Shape) (of : List ℕ) (n : Node) (type : TypeName) (params : List Param) (part : ℕ) → n ≡ node.Typed type params part → ((j : ℕ) → Contains (cell_parts (cell_of n)) j → IsKnown shapes of j) → IsKnown shapes of part
part_known shapes of n type params part is known =
    let P : Node → Type 0 = λ m. Contains (cell_parts (cell_of m)) part in
    known part (subst P (sym is) (in_first part []))

-- the text of a node
pub node_text : (nodes : List Node) (i : ℕ) (n : Node) → i < length nodes → n ≡ get_or nodes i n → AreTexts (map cell_of nodes) → IsText (cell_of n)
node_text nodes i n within is texts = texts.each_is i (cell_of n) (cell_there nodes i n within is)

pub node_parts : (nodes : List Node) (shapes : List Shape) (of : List ℕ) (i : ℕ) (n : Node) → i < length nodes → n ≡ get_or nodes i n → ((c : Cell) → IsCell (map cell_of nodes) i c → (j : ℕ) → Contains (cell_parts c) j → IsKnown shapes of j) → (j : ℕ) → Contains (cell_parts (cell_of n)) j → IsKnown shapes of j
node_parts nodes shapes of i n within is known = known (cell_of n) (cell_there nodes i n within is)

no_none : {A : Type 0} (why : SchemaFault) → ◌≡◌ {A = Result (Option A) SchemaFault} (Err why) (Ok None) → ⊥
no_none why h = cc

type_made : (cells : List Cell) (forms : Forms) (c : Cell) (known : Option NodeType) → MakesType cells forms c (Ok known) → IsTypeOf cells forms c known
type_made cells forms (cell.value type text) known made = made
type_made cells forms (cell.typed type params part) known made = made
type_made cells forms (cell.element class part) known made = tt
type_made cells forms (cell.attribute class part) known made = tt
type_made cells forms (cell.listed part) known made = tt
type_made cells forms (cell.ref name) known made = tt
type_made cells forms (cell.parent_ref name) known made = tt
type_made cells forms cell.empty known made = tt
type_made cells forms cell.any_text known made = tt
type_made cells forms cell.not_allowed known made = tt
type_made cells forms (cell.grammar clauses) known made = tt
type_made cells forms (cell.one_or_more part) known made = tt
type_made cells forms (cell.joined by first second) known made = tt

-- why a call made no type
abbrev RefusesType : List Cell → Forms → Cell → SchemaFault → Type 0
RefusesType cells forms c (fault.Unreadable why) = HasNoType cells forms c why
RefusesType cells forms c fault.NoMemory = Unit {0}
RefusesType cells forms c other = ⊥

value_not_made : (cells : List Cell) (forms : Forms) (type : TypeName) (text : List ℕ) (why : SchemaFault) → MakesType cells forms (cell.value type text) (Err why) → RefusesType cells forms (cell.value type text) why
value_not_made cells forms type text (fault.Unreadable why) made = made
value_not_made cells forms type text fault.NoMemory made = tt
value_not_made cells forms type text why made = absurd made

type_not_made : (cells : List Cell) (forms : Forms) (type : TypeName) (params : List Param) (part : ℕ) (why : SchemaFault) → MakesType cells forms (cell.typed type params part) (Err why) → RefusesType cells forms (cell.typed type params part) why
type_not_made cells forms type params part (fault.Unreadable why) made = made
type_not_made cells forms type params part fault.NoMemory made = tt
type_not_made cells forms type params part why made = absurd made

not_made : (cells : List Cell) (forms : Forms) (c : Cell) (why : SchemaFault) → MakesType cells forms c (Err why) → RefusesType cells forms c why
not_made cells forms (cell.value type text) why made = value_not_made cells forms type text why made
not_made cells forms (cell.typed type params part) why made = type_not_made cells forms type params part why made
not_made cells forms (cell.element class part) why made = absurd (no_none why made)
not_made cells forms (cell.attribute class part) why made = absurd (no_none why made)
not_made cells forms (cell.listed part) why made = absurd (no_none why made)
not_made cells forms (cell.ref name) why made = absurd (no_none why made)
not_made cells forms (cell.parent_ref name) why made = absurd (no_none why made)
not_made cells forms cell.empty why made = absurd (no_none why made)
not_made cells forms cell.any_text why made = absurd (no_none why made)
not_made cells forms cell.not_allowed why made = absurd (no_none why made)
not_made cells forms (cell.grammar clauses) why made = absurd (no_none why made)
not_made cells forms (cell.one_or_more part) why made = absurd (no_none why made)
not_made cells forms (cell.joined by first second) why made = absurd (no_none why made)

module _ (nodes : List Node) (forms : Forms) (i : ℕ) (n : Node) (within : i < length nodes) (is : n ≡ get_or nodes i n) (old new : List (Option NodeType)) where
  abbrev cells : List Cell
  cells = map cell_of nodes

  pub type_is_set : (known : Option NodeType) → length old ≡ length nodes → new ≡ slice_set old i known → MakesType cells forms (cell_of n) (Ok known) → IsTypeSet cells forms i old new
  type_is_set known all sets made =
      let P : List (Option NodeType) → Type 0 = IsTypeSet cells forms i old in
      subst P (sym sets) (record {
        length_stays = length-set old i known;
        others_stay = λ j other. get_or-set_other old i j known None other;
        is_type = λ c at.
            let Q : Cell → Type 0 = λ d. IsTypeOf cells forms d (known_at (slice_set old i known) i) in
            let R : Option NodeType → Type 0 = λ t. IsTypeOf cells forms (cell_of n) t in
            subst Q (same_Some _ _ (sym (cell_there nodes i n within is) ∙ at))
            (subst R (sym (get_or-set_same old i known None (omega arith))) (type_made cells forms (cell_of n) known made));
      })

  pub type_is_refused : (why : SchemaFault) → MakesType cells forms (cell_of n) (Err why) → SetsType cells forms i old new (Err why)
  type_is_refused why made = by_fault why (not_made cells forms (cell_of n) why made)
    where
      by_fault : (why : SchemaFault) → RefusesType (map cell_of nodes) forms (cell_of n) why → SetsType (map cell_of nodes) forms i old new (Err why)
      by_fault (fault.Unreadable why) refused = (cell_of n, cell_there nodes i n within is, refused)
      by_fault fault.NoMemory refused = tt
      by_fault fault.Failed refused = refused
      by_fault (fault.Absent a) refused = refused
      by_fault (fault.NotUtf8 a at) refused = refused
      by_fault (fault.BadUri a) refused = refused

-- combined definitions have no type
pub no_type_set : (nodes : List Node) (forms : Forms) (i : ℕ) (old : List (Option NodeType)) → length nodes ≤ i → IsTypeSet (map cell_of nodes) forms i old old
no_type_set nodes forms i old past = record {
  length_stays = refl;
  others_stay = λ j other. refl;
  is_type = λ c at.
      let inside = slice_get_within (map cell_of nodes) i c at in
      let all = length-map nodes cell_of in
      absurd (omega arith);
}

-- ---- types in order

module _ (cells : List Cell) (order : List ℕ) (forms : Forms) where
  pub none_typed : (types : List (Option NodeType)) → length types ≡ length cells → AreTypesBefore cells order 0 forms types
  none_typed types all = record { all = all; each_is = λ i c h at. absurd (none_before order i h) }

  pub one_more_typed : (end here : ℕ) (old new : List (Option NodeType)) → slice_get order end ≡ Some here → AreTypesBefore cells order end forms old → IsTypeSet cells forms here old new → AreTypesBefore cells order (end + 1) forms new
  one_more_typed end here old new place before set = record {
    all = set.length_stays ∙ before.all;
    each_is = λ i c h at.
        let P : ℕ → Type 0 = λ k. IsCell cells k c → IsTypeOf cells forms c (known_at new k) in
        let Q : Option NodeType → Type 0 = IsTypeOf cells forms c in
        elim (equal_or_not i here) [
          | inl same ↦ subst P (sym same) (set.is_type c) at
          | inr other ↦ elim (before_next order end i here place h) [
            | inl front ↦ subst Q (sym (set.others_stay i other)) (before.each_is i c front at)
            | inr is ↦ absurd (other is)
          ]
        ];
  }
    where
      equal_or_not : (a b : ℕ) → (a ≡ b) ⊎ (a ≡ b → ⊥)
      equal_or_not a b = elim (cases_lt a b) [
        | inl less ↦ inr (λ e. omega arith)
        | inr least ↦ elim (cases_lt b a) [
          | inl more ↦ inr (λ e. omega arith)
          | inr most ↦ inl (omega arith)
        ]
      ]

  pub one_refused : (end here : ℕ) (old new : List (Option NodeType)) (why : SchemaFault) → slice_get order end ≡ Some here → AreTypesBefore cells order end forms old → SetsType cells forms here old new (Err why) → MakesTypes cells order forms (Err why)
  one_refused end here old new (fault.Unreadable why) place before refused = record {
    place = end;
    node = here;
    there = place;
    cell = refused.0;
    is_cell = refused.1;
    types = old;
    before = before;
    refused = refused.2;
  }
  one_refused end here old new fault.NoMemory place before refused = tt
  one_refused end here old new fault.Failed place before refused = refused
  one_refused end here old new (fault.Absent a) place before refused = refused
  one_refused end here old new (fault.NotUtf8 a at) place before refused = refused
  one_refused end here old new (fault.BadUri a) place before refused = refused

-- the same of a text as it is seen
pub accepted_as : (datatype : Datatype) (seen text : List ℕ) → seen ≡ text → Accepts datatype seen → Accepts datatype text
accepted_as datatype seen text same accepted = let P : List ℕ → Type 0 = Accepts datatype in subst P same accepted
