-- What is still to be written of an element, and what a step does to it. Of this a reader needs `AddsElement` and `AddsInside` alone.
use Rattle.std.specs.Prelude.{◌≡◌, ◌<◌, ◌+◌, ℕ, List, [], ◌∷◌, ◌++◌, reverse, IsTrue}
use Rattle.std.specs.List.{sum_by, AllByRecursion}
use Rattle.nx_base.specs.declared.name.Name.{Name}
use Rattle.nx_base.specs.Trees.{Attribute, Children, nil, element, Event, Leave, attributes_flat, children_flat}
use Rattle.rng_core.specs.Names.{Class, has_attribute_name}
use Rattle.rng_core.specs.Patterns.{Pattern, Definition}
use Rattle.rng_cost.specs.Least.{cost_at}
use Rattle.rng_fill.specs.declared.moves.Move.{Move}
use Rattle.rng_fill.specs.declared.moves.Move.TheVariants as move
use Rattle.rng_fill.specs.declared.element.Task.{Task}
use Rattle.rng_fill.specs.declared.element.Task.TheVariants as task
use Rattle.rng_fill.specs.Moves.{events_of}
use Rattle.rng_fill.specs.Fillable.{IsNamed}
use Rattle.rng_fill.specs.Sorted.{AreAttributesOf}
use Rattle.rng_fill.specs.Strings.{IsStringOf, IsValueOf}
use Rattle.rng_fill.specs.Written.{AreOfChars, IsElement, IsInside}

-- ---- what the calls do

-- moves of an element of a definition were added
pub record AddsElement (g : List Definition) (i : ℕ) (old new : List Move) : Type 0 where
  pub name : Name
  pub attributes : List Attribute
  pub children : Children
  pub is_element : IsElement g i name attributes children
  pub added : List Move
  pub is : new ≡ old ++ added
  pub events : events_of added ≡ children_flat (element name attributes children nil) []

-- moves of what is in one were added
pub record AddsInside (g : List Definition) (i : ℕ) (old new : List Move) : Type 0 where
  pub added : List Move
  pub is : new ≡ old ++ added
  pub inside : IsInside g i (events_of added) []

-- ---- tasks

-- events that do what is to be done, one after another: an element of a definition's number, or the end of one
pub data AreDone (g : List Definition) : List Task → List Event → Type 0 where
  nothing_left : AreDone g [] []
  an_element : {i : ℕ} {n : Name} {a : List Attribute} {k : Children} {tasks : List Task} {after all : List Event} → IsElement g i n a k
      → all ≡ children_flat (element n a k nil) after → AreDone g tasks after → AreDone g (task.Element i ∷ tasks) all
  an_end : {tasks : List Task} {after : List Event} → AreDone g tasks after → AreDone g (task.Leave ∷ tasks) (Leave ∷ after)

-- of a stack, whose last task is the next
abbrev pub StackIsDone : List Definition → List Task → List Event → Type 0
StackIsDone g stack events = AreDone g (reverse stack) events

-- moves were added behind others, after which the new tasks remain of the old ones
pub record Continues (g : List Definition) (tasks tasks' : List Task) (old new : List Move) : Type 0 where
  pub added : List Move
  pub is : new ≡ old ++ added
  pub rest : (s : List Event) → StackIsDone g tasks' s → StackIsDone g tasks (events_of added ++ s)

-- what is in an element, and then events that do what is to be done
pub record IsInsideThen (g : List Definition) (i : ℕ) (tasks : List Task) (events : List Event) : Type 0 where
  pub after : List Event
  pub inside : IsInside g i events after
  pub rest : AreDone g tasks after

-- tasks are of elements that have a name
abbrev pub IsTaskOf : List Definition → Task → Type 0
IsTaskOf g (task.Element i) = IsNamed g i
IsTaskOf g task.Leave = Unit {0}

abbrev pub AreTasksOf : List Definition → List Task → Type 0
AreTasksOf g tasks = AllByRecursion (IsTaskOf g) tasks

-- what is still to be done, as a number that falls
abbrev pub weight_of : List ℕ → Task → ℕ
weight_of costs (task.Element i) = cost_at costs i + 2
weight_of costs task.Leave = 1

abbrev pub weight : List ℕ → List Task → ℕ
weight costs tasks = sum_by (weight_of costs) tasks

-- ---- what a step adds

-- moves of attributes that are matched by these leaves were added
pub record AddsAttributes (leaves : List Pattern) (old new : List Move) : Type 0 where
  pub attributes : List Attribute
  pub matched : (g : List Definition) → AreAttributesOf g leaves attributes
  pub values : AreOfChars attributes
  pub added : List Move
  pub is : new ≡ old ++ added
  pub events : (s : List Event) → events_of added ++ s ≡ attributes_flat attributes s

-- a move of an attribute of a class with a body was added
pub record AddsAttribute (class : Class) (body : Pattern) (old new : List Move) : Type 0 where
  pub name : Name
  pub value : List ℕ
  pub named : IsTrue (has_attribute_name class name)
  pub is_value : IsValueOf body value
  pub is : new ≡ old ++ move.Att name value ∷ []

-- the string of a leaf was added, or it is empty
pub data AddsString (leaf : Pattern) (old new : List Move) : Type 0 where
  adds_none : IsStringOf leaf [] → new ≡ old → AddsString leaf old new
  adds_text : {text : List ℕ} → IsStringOf leaf text → (text ≡ [] → ⊥) → new ≡ old ++ move.Chars text ∷ [] → AddsString leaf old new

-- what is in an element was begun: what the new tasks add to the moves is in it, and then the old ones are to be done
pub record Begins (g : List Definition) (costs : List ℕ) (i : ℕ) (tasks tasks' : List Task) (old new : List Move) : Type 0 where
  pub added : List Move
  pub is : new ≡ old ++ added
  pub inside : (s : List Event) → StackIsDone g tasks' s → IsInsideThen g i (reverse tasks) (events_of added ++ s)
  pub lighter : weight costs tasks' < weight costs tasks + weight_of costs (task.Element i)
  pub are : AreTasksOf g tasks'

-- the last task of a stack was done, or begun
pub record Steps (g : List Definition) (costs : List ℕ) (last : Task) (tasks tasks' : List Task) (old new : List Move) : Type 0 where
  pub continues : Continues g (tasks ++ last ∷ []) tasks' old new
  pub lighter : weight costs tasks' < weight costs tasks + weight_of costs last
  pub are : AreTasksOf g tasks'
