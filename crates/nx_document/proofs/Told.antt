-- Faults and events of items that are joined.
use Rattle.std.proofs.Common.{◌≡◌, Bool, true, false, List, [], ◌∷◌, ◌++◌, refl, ap, sym, ◌∙◌}
use Rattle.nx_base.specs.declared.fault.Fault.{Fault}
use Rattle.nx_base.specs.declared.fault.Kind.{Kind}
use Rattle.nx_base.specs.declared.token.Token.{Token}
use Rattle.nx_events.specs.Faults.{bare_fault, faults_as_items}
use Rattle.nx_events.specs.Items.{token_span, token_fault_if}
use Rattle.nx_events.specs.declared.item.Event.{Event}
use Rattle.nx_events.specs.declared.item.Item.{Item}
use Rattle.nx_events.specs.declared.item.Item.TheVariants as items
use Rattle.nx_events.specs.Among.{faults_among, events_among}

-- no fault is among the items
pub record Clean (all : List Item) : Type 0 where
  pub none : faults_among all ≡ []

pub clean_nil : Clean []
clean_nil = record { none = refl }

pub faults_append : (xs ys : List Item) → faults_among (xs ++ ys) ≡ faults_among xs ++ faults_among ys
faults_append [] ys = refl
faults_append (items.Event event span ∷ xs) ys = faults_append xs ys
faults_append (items.Fault fault ∷ xs) ys = ap (λ (fs : List Fault). fault ∷ fs) (faults_append xs ys)

pub events_append : (xs ys : List Item) → events_among (xs ++ ys) ≡ events_among xs ++ events_among ys
events_append [] ys = refl
events_append (items.Event event span ∷ xs) ys = ap (λ (es : List Event). event ∷ es) (events_append xs ys)
events_append (items.Fault fault ∷ xs) ys = events_append xs ys

nothing_first : (xs ys : List Fault) → xs ++ ys ≡ [] → xs ≡ []
nothing_first [] ys e = refl
nothing_first (x ∷ xs) ys e = let bad : x ∷ (xs ++ ys) ≡ [] = e in cc

nothing_second : (xs ys : List Fault) → xs ++ ys ≡ [] → ys ≡ []
nothing_second [] ys e = e
nothing_second (x ∷ xs) ys e = let bad : x ∷ (xs ++ ys) ≡ [] = e in cc

pub clean_both : {xs ys : List Item} → Clean xs → Clean ys → Clean (xs ++ ys)
clean_both {xs} {ys} h k = record { none = faults_append xs ys ∙ ap (λ fs. fs ++ faults_among ys) h.none ∙ k.none }

pub clean_first : (xs ys : List Item) → Clean (xs ++ ys) → Clean xs
clean_first xs ys h = record { none = nothing_first (faults_among xs) (faults_among ys) (sym (faults_append xs ys) ∙ h.none) }

pub clean_second : (xs ys : List Item) → Clean (xs ++ ys) → Clean ys
clean_second xs ys h = record { none = nothing_second (faults_among xs) (faults_among ys) (sym (faults_append xs ys) ∙ h.none) }

pub faulty : {A : Type 0} (fault : Fault) (others : List Item) → Clean (items.Fault fault ∷ others) → A
faulty fault others h = let bad : fault ∷ faults_among others ≡ [] = h.none in absurd (cc)

-- faults alone
pub no_faults : (fs : List Fault) → Clean (faults_as_items fs) → fs ≡ []
no_faults [] h = refl
no_faults (f ∷ fs) h = faulty f (faults_as_items fs) h

pub clean_faults : (fs : List Fault) → fs ≡ [] → Clean (faults_as_items fs)
clean_faults fs e = rw e clean_nil

pub fault_events : (fs : List Fault) → events_among (faults_as_items fs) ≡ []
fault_events [] = refl
fault_events (f ∷ fs) = fault_events fs

pub no_fault_if : (test : Bool) (kind : Kind) (token : Token) → Clean (token_fault_if test kind token) → test ≡ false
no_fault_if true kind token h = faulty (bare_fault kind (token_span token)) [] h
no_fault_if false kind token h = refl

pub clean_if : (test : Bool) (kind : Kind) (token : Token) → test ≡ false → Clean (token_fault_if test kind token)
clean_if test kind token e = rw e clean_nil

pub if_events : (test : Bool) (kind : Kind) (token : Token) → events_among (token_fault_if test kind token) ≡ []
if_events true kind token = refl
if_events false kind token = refl

-- events of parts of which the first has none
pub events_skip : (xs ys : List Item) → events_among xs ≡ [] → events_among (xs ++ ys) ≡ events_among ys
events_skip xs ys e = events_append xs ys ∙ ap (λ es. es ++ events_among ys) e
