-- A code of what contracts see of places: by it a proof tells two of them apart. Nothing that runs uses it.
use Rattle.std.specs.Prelude.{◌≡◌, List}
use Rattle.std.proofs.Common.{refl, ap, ◌∙◌}
use Rattle.std.specs.Coded.{Coded, code_by, coded_bool, coded_list, coded×}
use base.Stored.{Gv, gnil, gnum, gcons, num}
use Rattle.rng_core.specs.Patterns.{Pattern}
use Rattle.rng_kept.specs.Residuals.{Outer, document, inside, one_of, Way, among, in_tag, Residual}
use Rattle.deriv_nodes.specs.Codes.{pattern_code, different}
use Rattle.deriv_states.specs.Places.{Places}

abbrev first : Gv → Gv
first gnil = gnil
first (gnum n) = gnil
first (gcons a b) = a

abbrev rest : Gv → Gv
rest gnil = gnil
rest (gnum n) = gnil
rest (gcons a b) = b

abbrev code_of : Outer → Gv
code_of (document p) = gcons (gnum 0) (pattern_code.code p)
code_of (inside b l v o) =
    gcons (gnum 1) (gcons (pattern_code.code b) (gcons (pattern_code.code l) (gcons (coded_bool.code v) (code_of o))))
code_of (one_of o u) = gcons (gnum 2) (gcons (code_of o) (code_of u))

pub told : (o u : Outer) → code_of o ≡ code_of u → o ≡ u
told (document p) (document q) e = ap (λ x. document x) (pattern_code.inj p q (ap rest e))
told (document p) (inside c k w u) e = absurd (different 0 1 refl (ap (λ g. num (first g)) e))
told (document p) (one_of u r) e = absurd (different 0 2 refl (ap (λ g. num (first g)) e))
told (inside b l v o) (document q) e = absurd (different 1 0 refl (ap (λ g. num (first g)) e))
told (inside b l v o) (one_of u r) e = absurd (different 1 2 refl (ap (λ g. num (first g)) e))
told (one_of o r) (document q) e = absurd (different 2 0 refl (ap (λ g. num (first g)) e))
told (one_of o r) (inside c k w u) e = absurd (different 2 1 refl (ap (λ g. num (first g)) e))
told (one_of o r) (one_of u s) e =
    let parts = ap rest e in
    ap (λ x. one_of x r) (told o u (ap first parts)) ∙ ap (λ x. one_of u x) (told r s (ap rest parts))
told (inside b l v o) (inside c k w u) e =
    let parts = ap rest e in
    ap (λ x. inside x l v o) (pattern_code.inj b c (ap first parts))
    ∙ (ap (λ x. inside c x v o) (pattern_code.inj l k (ap (λ g. first (rest g)) parts))
    ∙ (ap (λ x. inside c k x o) (coded_bool.inj v w (ap (λ g. first (rest (rest g))) parts))
    ∙ ap (λ x. inside c k w x) (told o u (ap (λ g. rest (rest (rest g))) parts))))

abbrev pub outer_code : Coded Outer
outer_code = record { code = code_of; inj = told }

abbrev way_code_of : Way → Gv
way_code_of (among o) = gcons (gnum 0) (code_of o)
way_code_of (in_tag p o) = gcons (gnum 1) (gcons (pattern_code.code p) (code_of o))

pub way_told : (w v : Way) → way_code_of w ≡ way_code_of v → w ≡ v
way_told (among o) (among u) e = ap (λ x. among x) (told o u (ap rest e))
way_told (among o) (in_tag q u) e = absurd (different 0 1 refl (ap (λ g. num (first g)) e))
way_told (in_tag p o) (among u) e = absurd (different 1 0 refl (ap (λ g. num (first g)) e))
way_told (in_tag p o) (in_tag q u) e =
    ap (λ x. in_tag x o) (pattern_code.inj p q (ap (λ g. first (rest g)) e))
    ∙ ap (λ x. in_tag q x) (told o u (ap (λ g. rest (rest g)) e))

abbrev pub way_code : Coded Way
way_code = record { code = way_code_of; inj = way_told }

abbrev pub residual_code : Coded Residual
residual_code = coded_list way_code

abbrev pub places_code : Coded Places
places_code =
    code_by (List Pattern × (List Outer × (List Residual × List Pattern)))
    (coded× (coded_list pattern_code)
    (coded× (coded_list outer_code) (coded× (coded_list residual_code) (coded_list pattern_code))))
    (λ p. (p.patterns, (p.outers, (p.states, p.contents))))
    (λ t. record { patterns = t.0; outers = t.1.0; states = t.1.1.0; contents = t.1.1.1 }) (λ _. refl)
