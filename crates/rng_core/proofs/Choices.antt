-- A choice by its right sides, with one side more or less.
use Rattle.std.specs.Prelude.{◌≡◌, List, [], ◌∷◌, ◌++◌, map}
use Rattle.std.proofs.Common.{refl, sym, ap, ◌∙◌}
use Rattle.rng_core.specs.declared.name_class.NameClass.{NameClass}
use Rattle.rng_core.specs.Names.{Class, either}
use Rattle.rng_core.specs.Meaning.{class_of}
use Rattle.rng_core.specs.Spine.{choices}

choices_of_more : (first : Class) (other : NameClass) (others : List NameClass) → choices first (map class_of (others ++ other ∷ [])) ≡ choices (either first (class_of other)) (map class_of others)
choices_of_more first other [] = refl
choices_of_more first other (c ∷ cs) = ap (λ (d : Class). either d (class_of c)) (choices_of_more first other cs)

-- the last side is taken
pub one_less : (whole first : Class) (built taken other : NameClass) (others left : List NameClass) → built ≡ taken → first ≡ class_of taken → others ≡ left ++ other ∷ [] → choices first (map class_of others) ≡ whole → choices (either (class_of built) (class_of other)) (map class_of left) ≡ whole
one_less whole first built taken other others left same is split before =
    ap (λ (c : Class). choices (either c (class_of other)) (map class_of left)) (ap class_of same ∙ sym is)
    ∙ sym (choices_of_more first other left) ∙ ap (λ (cs : List NameClass). choices first (map class_of cs)) (sym split) ∙ before

-- a side is added
pub one_more : (whole front : Class) (more last rest copied : NameClass) (others grown : List NameClass) → front ≡ either (class_of more) (class_of last) → rest ≡ more → class_of copied ≡ class_of last → grown ≡ others ++ copied ∷ [] → choices front (map class_of others) ≡ whole → choices (class_of rest) (map class_of grown) ≡ whole
one_more whole front more last rest copied others grown is same alike push before =
    ap (λ (cs : List NameClass). choices (class_of rest) (map class_of cs)) push ∙ choices_of_more (class_of rest) copied others
    ∙ ap (λ (c : Class). choices (either c (class_of copied)) (map class_of others)) (ap class_of same)
    ∙ ap (λ (c : Class). choices (either (class_of more) c) (map class_of others)) alike
    ∙ ap (λ (c : Class). choices c (map class_of others)) (sym is) ∙ before
