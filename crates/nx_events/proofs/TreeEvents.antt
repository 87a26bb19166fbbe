-- The events of trees stay apart among those of texts.
use Rattle.std.proofs.Common.{◌≡◌, List, [], ◌∷◌, map, refl, ap, sym, ◌∙◌}
use Rattle.nx_base.specs.Trees as trees
use Rattle.nx_events.specs.declared.item.Event.{Event}
use Rattle.nx_events.specs.declared.item.Event.TheVariants as events
use Rattle.nx_events.specs.TreeEvents.{as_event}

-- the events of a tree, back from the events of a text
back : List Event → List trees.Event
back [] = []
back (events.Enter name ∷ others) = trees.Enter name ∷ back others
back (events.EnterLost ∷ others) = back others
back (events.Att name value ∷ others) = trees.Att name value ∷ back others
back (events.TagEnd ∷ others) = trees.TagEnd ∷ back others
back (events.Chars text ∷ others) = trees.Chars text ∷ back others
back (events.Leave ∷ others) = trees.Leave ∷ back others

there_and_back : (all : List trees.Event) → back (map as_event all) ≡ all
unfolding back
there_and_back [] = refl
there_and_back (trees.Enter name ∷ others) = ap (λ (es : List trees.Event). trees.Enter name ∷ es) (there_and_back others)
there_and_back (trees.Att name value ∷ others) = ap (λ (es : List trees.Event). trees.Att name value ∷ es) (there_and_back others)
there_and_back (trees.TagEnd ∷ others) = ap (λ (es : List trees.Event). trees.TagEnd ∷ es) (there_and_back others)
there_and_back (trees.Chars text ∷ others) = ap (λ (es : List trees.Event). trees.Chars text ∷ es) (there_and_back others)
there_and_back (trees.Leave ∷ others) = ap (λ (es : List trees.Event). trees.Leave ∷ es) (there_and_back others)

pub stay_apart : (one other : List trees.Event) → map as_event one ≡ map as_event other → one ≡ other
stay_apart one other e = sym (there_and_back one) ∙ ap back e ∙ there_and_back other
