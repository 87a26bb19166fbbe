-- The events of a tree are those of no other.
use Rattle.std.proofs.Common.{◌≡◌, ℕ, List, [], ◌∷◌, map, refl, ap, sym, subst, ◌∙◌}
use Rattle.nx_base.specs.Trees.{Tree, Children, nil, string, element, attributes_flat, children_flat, alone, flat}
use Rattle.nx_base.specs.Trees as trees
use Rattle.nx_base.specs.declared.name.Name.{Name}
use Rattle.nx_base.specs.declared.token.Token.{Token}
use Rattle.nx_document.specs.Document.{Document}
use Rattle.nx_events.specs.TreeEvents.{as_event}
use Rattle.nx_document.proofs.Nesting.{document_reads}
use Rattle.nx_events.proofs.TreeEvents.{stay_apart}

-- the children end here
abbrev Stops : List trees.Event → Type 0
Stops [] = Unit {0}
Stops (trees.Leave ∷ others) = Unit {0}
Stops (trees.Enter name ∷ others) = ⊥
Stops (trees.Att name value ∷ others) = ⊥
Stops (trees.TagEnd ∷ others) = ⊥
Stops (trees.Chars text ∷ others) = ⊥

not_text : {A : Type 0} (x : List trees.Event) (text : List ℕ) (others : List trees.Event) → Stops x → x ≡ trees.Chars text ∷ others → A
not_text x text others s e = let bad : ⊥ = subst Stops e s in absurd bad

not_element : {A : Type 0} (x : List trees.Event) (name : Name) (others : List trees.Event) → Stops x → x ≡ trees.Enter name ∷ others → A
not_element x name others s e = let bad : ⊥ = subst Stops e s in absurd bad

same_attributes : (a b : List trees.Attribute) (x y : List trees.Event) → attributes_flat a (trees.TagEnd ∷ x) ≡ attributes_flat b (trees.TagEnd ∷ y) → (a ≡ b) × (x ≡ y)
same_attributes [] [] x y e = (refl, cc)
same_attributes [] (b ∷ bs) x y e = let bad : trees.TagEnd ∷ x ≡ trees.Att b.name b.value ∷ attributes_flat bs (trees.TagEnd ∷ y) = e in absurd (cc)
same_attributes (a ∷ more) [] x y e = let bad : trees.Att a.name a.value ∷ attributes_flat more (trees.TagEnd ∷ x) ≡ trees.TagEnd ∷ y = e in absurd (cc)
same_attributes (a ∷ more) (b ∷ others) x y e =
    let both : trees.Att a.name a.value ∷ attributes_flat more (trees.TagEnd ∷ x) ≡ trees.Att b.name b.value ∷ attributes_flat others (trees.TagEnd ∷ y) = e in
    let name : a.name ≡ b.name = cc in
    let value : a.value ≡ b.value = cc in
    let tails : attributes_flat more (trees.TagEnd ∷ x) ≡ attributes_flat others (trees.TagEnd ∷ y) = cc in
    let rest = same_attributes more others x y tails in (
      ap (λ (n : Name). let it : trees.Attribute = record { name = n; value = a.value } in it ∷ more) name
          ∙ ap (λ (v : List ℕ). let it : trees.Attribute = record { name = b.name; value = v } in it ∷ more) value
          ∙ ap (λ (xs : List trees.Attribute). b ∷ xs) rest.0,
      rest.1,
    )

same_children : (c d : Children) (x y : List trees.Event) → Stops x → Stops y → children_flat c x ≡ children_flat d y → (c ≡ d) × (x ≡ y)
same_children nil nil x y s t e = (refl, e)
same_children nil (string text rest) x y s t e = not_text x text (children_flat rest y) s e
same_children nil (element name attributes children rest) x y s t e = not_element x name _ s e
same_children (string text rest) nil x y s t e = not_text y text (children_flat rest x) t (sym e)
same_children (element name attributes children rest) nil x y s t e = not_element y name _ t (sym e)
same_children (string text rest) (string other more) x y s t e =
    let both : trees.Chars text ∷ children_flat rest x ≡ trees.Chars other ∷ children_flat more y = e in
    let texts : text ≡ other = cc in
    let tails : children_flat rest x ≡ children_flat more y = cc in
    let w = same_children rest more x y s t tails in
    (ap (λ (u : List ℕ). string u rest) texts ∙ ap (string other) w.0, w.1)
same_children (string text rest) (element name attributes children more) x y s t e =
    let bad : trees.Chars text ∷ children_flat rest x ≡ trees.Enter name ∷ attributes_flat attributes (trees.TagEnd ∷ children_flat children (trees.Leave ∷ children_flat more y)) = e in absurd (cc)
same_children (element name attributes children rest) (string text more) x y s t e =
    let bad : trees.Enter name ∷ attributes_flat attributes (trees.TagEnd ∷ children_flat children (trees.Leave ∷ children_flat rest x)) ≡ trees.Chars text ∷ children_flat more y = e in absurd (cc)
same_children (element n a k r) (element m b l q) x y s t e =
    let both : trees.Enter n ∷ attributes_flat a (trees.TagEnd ∷ children_flat k (trees.Leave ∷ children_flat r x)) ≡ trees.Enter m ∷ attributes_flat b (trees.TagEnd ∷ children_flat l (trees.Leave ∷ children_flat q y)) = e in
    let names : n ≡ m = cc in
    let tails : attributes_flat a (trees.TagEnd ∷ children_flat k (trees.Leave ∷ children_flat r x)) ≡ attributes_flat b (trees.TagEnd ∷ children_flat l (trees.Leave ∷ children_flat q y)) = cc in
    let u = same_attributes a b (children_flat k (trees.Leave ∷ children_flat r x)) (children_flat l (trees.Leave ∷ children_flat q y)) tails in
    let v = same_children k l (trees.Leave ∷ children_flat r x) (trees.Leave ∷ children_flat q y) tt tt u.1 in
    let behind : trees.Leave ∷ children_flat r x ≡ trees.Leave ∷ children_flat q y = v.1 in
    let after : children_flat r x ≡ children_flat q y = cc in
    let w = same_children r q x y s t after in
    (ap (λ (z : Name). element z a k r) names ∙ ap (λ (z : List trees.Attribute). element m z k r) u.0 ∙ ap (λ (z : Children). element m b z r) v.0 ∙ ap (element m b l) w.0, w.1)

same_tree : (tree other : Tree) → alone tree ≡ alone other → tree ≡ other
same_tree tree other e =
    let both : element tree.name tree.attributes tree.children nil ≡ element other.name other.attributes other.children nil = e in
    let names : tree.name ≡ other.name = cc in
    let attributes : tree.attributes ≡ other.attributes = cc in
    let children : tree.children ≡ other.children = cc in
    ap (λ (z : Name). let t : Tree = record { name = z; attributes = tree.attributes; children = tree.children } in t) names
    ∙ ap (λ (z : List trees.Attribute). let t : Tree = record { name = other.name; attributes = z; children = tree.children } in t) attributes
    ∙ ap (λ (z : Children). let t : Tree = record { name = other.name; attributes = other.attributes; children = z } in t) children

pub one_tree : (all : List Token) (tree other : Tree) → Document all tree → Document all other → tree ≡ other
one_tree all tree other one two =
    let same : map as_event (flat tree) ≡ map as_event (flat other) = sym (document_reads all tree 0 one).1 ∙ (document_reads all other 0 two).1 in
    same_tree tree other (same_children (alone tree) (alone other) [] [] tt tt (stay_apart (flat tree) (flat other) same)).0
