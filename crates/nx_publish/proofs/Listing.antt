-- One diagnostic more.
use Rattle.std.proofs.Common.{◌≡◌, ◌∙◌, List, [], ◌∷◌, ◌++◌, map, refl, sym, ap, append_assoc}
use Rattle.nx_base.specs.declared.fault.Fault.{Fault}
use Rattle.serde_json.specs.Data.{Data}
use Rattle.serde_json.specs.View.{view}
use Rattle.serde_json.specs.declared.value.Value.{Value}

map_more : (list : List Value) (made : Value) → map view (list ++ made ∷ []) ≡ map view list ++ view made ∷ []
map_more [] made = refl
map_more (first ∷ list) made = ap (λ rest. view first ∷ rest) (map_more list made)

pub one_more : (rule : Fault → Data) (list : List Value) (made : Value) (fault : Fault) (behind rest : List Fault) (all : List Data) →
    rest ≡ fault ∷ behind → view made ≡ rule fault → map view list ++ map rule rest ≡ all → map view (list ++ made ∷ []) ++ map rule behind ≡ all
one_more rule list made fault behind rest all whole is so_far =
    ap (λ xs. xs ++ map rule behind) (map_more list made ∙ ap (λ d. map view list ++ d ∷ []) is)
    ∙ append_assoc (map view list) (rule fault ∷ []) (map rule behind)
    ∙ ap (λ faults. map view list ++ map rule faults) (sym whole) ∙ so_far
