-- Rules files that are read in turns, along the chain of those that are open.
use Rattle.std.proofs.Common.{◌≡◌, refl, sym, ap, ◌∙◌, subst, ℕ, List, [], ◌∷◌, ◌++◌, length, map, reverse, Option, Some, None, Result, Ok, Err, Vec, Global, arith, append_assoc, append-nil, IsUtf8, Contains, IfOk, ◌||◌}
use Rattle.std.specs.List.{list_any}
use Rattle.std.specs.Str.{bytes_eq}
use Rattle.std.proofs.lemmas.List.{reverse-append, reverse-reverse}
use Rattle.nx_base.specs.declared.locate_fault.LocateFault.{LocateFault}
use Rattle.nx_base.specs.declared.locate_fault.LocateFault.TheVariants.{RulesAbsent, RulesNotUtf8, BadRules, RulesLoop, BadUri, Failed, NoMemory}
use Rattle.nx_host.specs.Files.{FileMap}
use Rattle.nx_host.specs.Uri.{Joins}
use Rattle.nx_locate.specs.declared.load.OpenFile.{OpenFile}
use Rattle.nx_locate.specs.declared.rule.PlacedRule.{PlacedRule}
use Rattle.nx_locate.specs.declared.rule.Rule.{Rule}
use Rattle.nx_locate.specs.declared.rule.Rule.TheVariants.{Include, Uri, DocumentElement, Namespace, Default, Transform, TypeId}
use Rattle.nx_locate.specs.Loading.{ReadsFile}
use Rattle.nx_locate.specs.Locates.{IfTold}
use Rattle.nx_locate.specs.RulesFiles.{Says, included_by, AllRules, of_file, Replaced, no_rules, own_rule, included, the_first, a_further, IsReached, IsAbsent, IsNoText, IsBad, Includes, HasBadInclude}
use Rattle.nx_locate.specs.RulesRead.{AreTextRules}
use Rattle.nx_locate.specs.Walking.{Open, opened, open_of, opens_of, left_in, uris_of, IsLeft, none_open, one_open, IsOpen, UnderWay, IsTextOpen, AreTextOpen, Refuses, NextUri, IsAdded, OpensFile, GoesOn}

-- ---- a file that is refused

module _ (told : Option FileMap) (start : List ℕ) where
  pub refused_at : (uri : List ℕ) (before after : ℕ) (fault : LocateFault) → IfTold told (λ files. IsReached files start uri) →
      IsUtf8 uri → ReadsFile told uri before after (Err fault) → Refuses told start before after fault
  refused_at uri before after (RulesAbsent absent) reached is_text h = (
    subst (λ u. IsUtf8 u) (sym h.0) is_text,
    λ files is. subst (λ u. IsAbsent files start u) (sym h.0) (reached files is, h.1 files is),
    h.2,
  )
  refused_at uri before after (RulesNotUtf8 wrong at) reached is_text h = (
    subst (λ u. IsUtf8 u) (sym h.0) is_text,
    λ files is. subst (λ u. IsNoText files start u at) (sym h.0) (let found = h.1 files is in record {
      reached = reached files is;
      bytes = found.0;
      there = found.1;
      no_text = found.2.no_text;
      stops = found.2.stops;
    }),
    h.2,
  )
  refused_at uri before after (BadRules wrong) reached is_text h = (
    subst (λ u. IsUtf8 u) (sym h.0) is_text,
    λ files is. subst (λ u. IsBad files start u) (sym h.0) (let found = h.1 files is in record {
      reached = reached files is;
      bytes = found.0;
      there = found.1;
      is_text = found.2;
      has_no_rules = found.3;
    }),
    h.2,
  )
  refused_at uri before after (RulesLoop other) reached is_text h = absurd h
  refused_at uri before after (BadUri text) reached is_text h = absurd h
  refused_at uri before after Failed reached is_text h = h
  refused_at uri before after NoMemory reached is_text h = h

  pub first_refused : (before after : ℕ) (fault : LocateFault) → IsUtf8 start → ReadsFile told start before after (Err fault) →
      Refuses told start before after fault
  first_refused before after fault is_text h =
      refused_at start before after fault (λ files is. record { outer = []; chain = the_first }) is_text h

  -- ---- turns

  pub begun : (rules : List Rule) → IfTold told (λ files. Says files start rules) → UnderWay told start (opened start rules ∷ []) []
  begun rules says files is = record {
    are_open = (record { chain = the_first; front = []; says = says files is }, tt);
    completed = λ rest left. whole rest left;
  }
    where
      whole : (rest : List PlacedRule) → IsLeft files (opened start rules ∷ []) rest → AllRules files [] start rest
      whole rest (one_open {own = own} replaced none_open all) =
          of_file rules (says files is) (subst (λ rs. Replaced files (start ∷ []) start rules rs) (sym (all ∙ append-nil own)) replaced)

  pub ended : (uri : List ℕ) (outer : List Open) (listed : List PlacedRule) → UnderWay told start (opened uri [] ∷ outer) listed →
      UnderWay told start outer listed
  ended uri outer listed under files is =
      let u = under files is in
      record { are_open = u.are_open.1; completed = λ rest left. u.completed rest (one_open no_rules left refl) }

  -- the file goes on behind its next rule
  next_open : (files : FileMap) (uri : List ℕ) (rule : Rule) (left : List Rule) (outer : List Open) →
      IsOpen files start (opened uri (rule ∷ left)) outer → IsOpen files start (opened uri left) outer
  next_open files uri rule left outer o = record {
    chain = o.chain;
    front = o.front ++ rule ∷ [];
    says = subst (λ rs. Says files uri rs) (sym (append_assoc o.front (rule ∷ []) left)) o.says;
  }

  pub listed_one : (uri : List ℕ) (rule : Rule) (left : List Rule) (outer : List Open) (listed : List PlacedRule) →
      included_by rule ≡ None → UnderWay told start (opened uri (rule ∷ left) ∷ outer) listed →
      UnderWay told start (opened uri left ∷ outer) (listed ++ record { base = uri; rule = rule } ∷ [])
  listed_one uri rule left outer listed none under files is = record {
    are_open = (next_open files uri rule left outer (under files is).are_open.0, (under files is).are_open.1);
    completed =
        λ rest left_over. subst (λ rs. AllRules files [] start rs) (sym (append_assoc listed (placed ∷ []) rest))
        ((under files is).completed (placed ∷ rest) (with_rule rest left_over));
  }
    where
      placed : PlacedRule
      placed = record { base = uri; rule = rule }

      with_rule : (rest : List PlacedRule) → IsLeft files (opened uri left ∷ outer) rest →
          IsLeft files (opened uri (rule ∷ left) ∷ outer) (placed ∷ rest)
      with_rule rest (one_open replaced others all) = one_open (own_rule none replaced) others (ap (λ rs. placed ∷ rs) all)

  pub went_in : (uri text other : List ℕ) (rules left : List Rule) (outer : List Open) (listed : List PlacedRule) →
      Joins uri text other → (Contains (uri ∷ uris_of outer) other → ⊥) → IfTold told (λ files. Says files other rules) →
      UnderWay told start (opened uri (Include text ∷ left) ∷ outer) listed →
      UnderWay told start (opened other rules ∷ opened uri left ∷ outer) listed
  went_in uri text other rules left outer listed joins no_loop says under files is = record {
    are_open = (
      record {
        chain = a_further (under files is).are_open.0.front left (under files is).are_open.0.chain (under files is).are_open.0.says joins no_loop;
        front = [];
        says = says files is;
      },
      (next_open files uri (Include text) left outer (under files is).are_open.0, (under files is).are_open.1),
    );
    completed = λ rest left_over. (under files is).completed rest (whole rest left_over);
  }
    where
      whole : (rest : List PlacedRule) → IsLeft files (opened other rules ∷ opened uri left ∷ outer) rest →
          IsLeft files (opened uri (Include text ∷ left) ∷ outer) rest
      whole rest (one_open {own = inner} within (one_open {own = own} {others = others} replaced behind all_outer) all) =
          one_open (included other joins no_loop (of_file rules (says files is) within) replaced refl) behind
          (all ∙ ap (λ rs. inner ++ rs) all_outer ∙ sym (append_assoc inner own others))

  pub all_listed : (listed : List PlacedRule) → UnderWay told start [] listed → IfTold told (λ files. AllRules files [] start listed)
  all_listed listed under files is =
      subst (λ rs. AllRules files [] start rs) (append-nil listed) ((under files is).completed [] none_open)

  -- ---- includes that are refused

  module _ (uri text : List ℕ) (left : List Rule) (outer : List Open) (listed : List PlacedRule)
      (under : UnderWay told start (opened uri (Include text ∷ left) ∷ outer) listed) where
    includes : IfTold told (λ files. Includes files start uri (uris_of outer) text)
    includes files is = let o = (under files is).are_open.0 in record { chain = o.chain; front = o.front; behind = left; says = o.says }

    pub not_next : (count : ℕ) (fault : LocateFault) → IsUtf8 text → NextUri (uris_of outer) uri text (Err fault) →
        Refuses told start count count fault
    not_next count (BadUri wrong) is_text h = (
      subst (λ t. IsUtf8 t) (sym h.0) is_text,
      λ files is. subst (λ t. HasBadInclude files start t) (sym h.0)
          (record { from = uri; outer = uris_of outer; includes = includes files is; bad = h.1 }),
      refl,
    )
    not_next count (RulesLoop other) is_text h = (
      h.1,
      λ files is. record { from = uri; outer = uris_of outer; text = text; includes = includes files is; joined = h.0; leads_back = h.2 },
      refl,
    )
    not_next count NoMemory is_text h = refl
    not_next count (RulesAbsent absent) is_text h = absurd h
    not_next count (RulesNotUtf8 wrong at) is_text h = absurd h
    not_next count (BadRules wrong) is_text h = absurd h
    not_next count Failed is_text h = absurd h

    pub not_read : (other : List ℕ) (before after : ℕ) (fault : LocateFault) → Joins uri text other → IsUtf8 other →
        (Contains (uri ∷ uris_of outer) other → ⊥) → ReadsFile told other before after (Err fault) → Refuses told start before after fault
    not_read other before after fault joins is_text no_loop h =
        refused_at other before after fault (λ files is. let o = (under files is).are_open.0 in record {
          outer = uri ∷ uris_of outer;
          chain = a_further o.front left o.chain o.says joins no_loop;
        }) is_text h

    -- the file is opened, or refused
    pub opens_or_not : {A : Type 0} (other : List ℕ) (before after : ℕ) (between new : List OpenFile) (result : Result A LocateFault) →
        Joins uri text other × IsUtf8 other × (Contains (uri ∷ uris_of outer) other → ⊥) → opens_of between ≡ opened uri left ∷ outer →
        OpensFile told other before after between new result → GoesOn told start before after (opens_of new) listed result
    opens_or_not other before after between new (Ok done) next back opens = (
      subst (λ os. UnderWay told start os listed) (sym (opens.3 ∙ ap (λ os. opened other opens.0 ∷ os) back))
          (went_in uri text other opens.0 left outer listed next.0 next.2 opens.1 under),
      opens.4,
    )
    opens_or_not other before after between new (Err fault) next back opens = not_read other before after fault next.0 next.1 next.2 opens

-- ---- chains of the program

-- a file is put behind a chain
pub put_behind : (old new : List OpenFile) (file : OpenFile) → new ≡ old ++ file ∷ [] → opens_of new ≡ open_of file ∷ opens_of old
put_behind old new file are = ap (map open_of) (ap reverse are ∙ reverse-append old (file ∷ []))

pub added : (uri : List ℕ) (rules waiting : List Rule) (kept : Vec Rule Global) (old new : List OpenFile) → kept.items ≡ reverse rules →
    new ≡ old ++ record { uri = uri; waiting = kept } ∷ [] → IsAdded uri rules old new
added uri rules waiting kept old new turned are =
    put_behind old new (record { uri = uri; waiting = kept }) are
    ∙ ap (λ left. opened uri left ∷ opens_of old) (ap reverse turned ∙ reverse-reverse rules)

-- the rule that is taken from a file
pub taken : (uri : List ℕ) (old new : List Rule) (rule : Rule) → old ≡ new ++ rule ∷ [] → opened uri (reverse old) ≡ opened uri (rule ∷ reverse new)
taken uri old new rule are = ap (opened uri) (ap reverse are ∙ reverse-append new (rule ∷ []))

-- a rule that includes a file
pub is_include : (rule : Rule) (text : List ℕ) → included_by rule ≡ Some text → rule ≡ Include text
is_include (Include other) text h = let same : other ≡ text = cc in ap Include same
is_include (Uri resource pattern leads) text h = let never : ⊥ = cc in absurd never
is_include (DocumentElement prefix local leads) text h = let never : ⊥ = cc in absurd never
is_include (Namespace ns leads) text h = let never : ⊥ = cc in absurd never
is_include (Default leads) text h = let never : ⊥ = cc in absurd never
is_include (Transform from to) text h = let never : ⊥ = cc in absurd never
is_include (TypeId id leads) text h = let never : ⊥ = cc in absurd never

-- refusals are alike for files that tell the same and count the same
pub refuses_alike : (told other : Option FileMap) (start : List ℕ) (before earlier after : ℕ) (fault : LocateFault) → told ≡ other →
    before ≡ earlier → Refuses told start before after fault → Refuses other start earlier after fault
refuses_alike told other start before earlier after fault same count h =
    subst (λ b. Refuses other start b after fault) count (subst (λ t. Refuses t start before after fault) same h)

-- whether a URI is that of a file of the chain
pub of_chain : (uri : List ℕ) (files : List OpenFile) →
    list_any (λ (file : OpenFile). bytes_eq uri file.uri) files ≡ list_any (bytes_eq uri) (uris_of (map open_of files))
of_chain uri [] = refl
of_chain uri (file ∷ files) = ap (λ b. bytes_eq uri file.uri || b) (of_chain uri files)

-- the texts of a file that is opened, and of the chain
pub opened_texts : {A : Type 0} (told : Option FileMap) (other : List ℕ) (before after : ℕ) (old between new : List OpenFile) (file : OpenFile)
    (result : Result A LocateFault) → IsUtf8 other → between ≡ old ++ file ∷ [] → IsTextOpen (open_of file) → AreTextOpen (opens_of old) →
    OpensFile told other before after between new result → IfOk result (λ _. AreTextOpen (opens_of new))
opened_texts told other before after old between new file (Ok done) is_text back file_text chain_text opens =
    subst AreTextOpen (sym (opens.3 ∙ ap (λ os. opened other opens.0 ∷ os) (put_behind old between file back)))
    ((is_text, opens.2), (file_text, chain_text))
opened_texts told other before after old between new file (Err fault) is_text back file_text chain_text opens = tt

-- what a turn says of rules that stayed
pub included_now : {A : Type 0} (told : Option FileMap) (start : List ℕ) (before after : ℕ) (opens : List Open)
    (old new : Vec PlacedRule Global) (result : Result A LocateFault) → new ≡ old → GoesOn told start before after opens old.items result →
    GoesOn told start before after opens new.items result
included_now told start before after opens old new result same h =
    subst (λ (rules : Vec PlacedRule Global). GoesOn told start before after opens rules.items result) (sym same) h

-- and of a rule that was listed
pub listed_now : (told : Option FileMap) (start : List ℕ) (file : OpenFile) (rule : Rule) (old new : List OpenFile)
    (listed now : List PlacedRule) → included_by rule ≡ None → new ≡ old ++ file ∷ [] →
    now ≡ listed ++ record { base = file.uri; rule = rule } ∷ [] →
    UnderWay told start (opened file.uri (rule ∷ left_in file) ∷ opens_of old) listed → UnderWay told start (opens_of new) now
listed_now told start file rule old new listed now none back is under =
    subst (λ os. UnderWay told start os now) (sym (put_behind old new file back))
    (subst (λ rs. UnderWay told start (open_of file ∷ opens_of old) rs) (sym is)
    (listed_one told start file.uri rule (left_in file) (opens_of old) listed none under))

nothing : {A : Type 0} (xs : List A) → length xs ≡ 0 → xs ≡ []
nothing [] h = refl
nothing (x ∷ xs) h = absurd (omega (arith, h))

pub none_waiting : (uri : List ℕ) (waiting : List Rule) → length waiting ≡ 0 → opened uri (reverse waiting) ≡ opened uri []
none_waiting uri waiting h = ap (λ rs. opened uri (reverse rs)) (nothing waiting h)

pub none_open_left : (chain : List OpenFile) → length chain ≡ 0 → opens_of chain ≡ []
none_open_left chain h = ap opens_of (nothing chain h)

-- loading begins
pub begins_from : (told : Option FileMap) (start first : List ℕ) (before after : ℕ) (none new : List OpenFile) (none_listed now : List PlacedRule)
    → first ≡ start → none ≡ [] → none_listed ≡ [] → now ≡ none_listed →
    (rules : List Rule) × IfTold told (λ files. Says files first rules) × AreTextRules rules × IsAdded first rules none new × (after ≡ before) →
    UnderWay told start (opens_of new) now × (after ≡ before)
begins_from told start first before after none new none_listed now same empty no_rule is opens = (
  subst (λ os. UnderWay told start os now) (sym (opens.3 ∙ ap (λ os. opened first opens.0 ∷ os) (ap opens_of empty)))
      (subst (λ rs. UnderWay told start (opened first opens.0 ∷ []) rs) (sym (is ∙ no_rule))
      (subst (λ u. UnderWay told start (opened u opens.0 ∷ []) []) (sym same)
      (begun told start opens.0 (subst (λ u. IfTold told (λ files. Says files u opens.0)) same opens.1)))),
  opens.4,
)

pub not_begun : (told : Option FileMap) (start first : List ℕ) (before after : ℕ) (fault : LocateFault) → first ≡ start → IsUtf8 start →
    ReadsFile told first before after (Err fault) → Refuses told start before after fault
not_begun told start first before after fault same is_text h =
    first_refused told start before after fault is_text (subst (λ u. ReadsFile told u before after (Err fault)) same h)
