-- The items of a text gone over, one after another: where its first fault is, how many elements are open, and what is put together.
-- The program's own functions; no public contract rests on them.
use Rattle.std.specs.Prelude.{◌≡◌, ℕ, ◌≤◌, Bool, true, false, List, [], ◌∷◌, Option, Some, None, Result, Ok, Err, Vec, nat_lt}
use Rattle.std.specs.Option.{option_or}
use Rattle.std.specs.declared.alloc.Global.{Global}
use Rattle.nx_base.specs.declared.name.Name.{Name}
use Rattle.nx_events.specs.declared.item.Item.{Item}
use Rattle.rngx_read.specs.declared.element.Element.{Element}
use Rattle.rngx_read.specs.declared.read.XReadFault.{XReadFault}
use Rattle.rngx_read.specs.declared.read.XReadFault.TheVariants as faults
use Rattle.rngx_read.specs.declared.walk.Walk.{Walk}
use Rattle.rngx_read.specs.Building.{Built, bare, behind_item}
use Rattle.rngx_read.specs.Marking.{begin_of, fault_place}
use Rattle.rngx_read.specs.Reads.{open_with}
use Rattle.rngx_read.specs.Views.{listed, built_of}

-- where the first fault begins, where the 201st element does that is open at once, how many are open, and what is put together
pub record Walked : Type 0 where
  pub fault : Option ℕ
  pub too_deep : Option ℕ
  pub depth : ℕ
  pub built : Built

-- what the program holds
abbrev pub walked_of : Walk → Walked
walked_of walk = record { fault = walk.fault; too_deep = walk.too_deep; depth = walk.depth; built = built_of walk.builder }

-- nothing is gone over, and these are the own declarations of the tags that come
abbrev pub at_start : List (List Name) → Walked
at_start declared = record {
  fault = None;
  too_deep = None;
  depth = 0;
  built = record { inner = bare [] []; outer = []; passed = 0; declared = declared };
}

abbrev pub looked_at : Item → Walked → Walked
looked_at item walked = record walked { fault = option_or walked.fault (fault_place item) }

-- one more item, by whether the 201st element is open behind it
abbrev pub counted_by : Bool → Item → Walked → Walked
counted_by true item walked = record walked { too_deep = Some (begin_of item) }
counted_by false item walked = record walked { depth = open_with walked.depth item; built = behind_item item walked.built }

-- behind an element that is too deep nothing is counted or put together
abbrev pub counted : Option ℕ → Item → Walked → Walked
counted None item walked = counted_by (nat_lt 200 (open_with walked.depth item)) item walked
counted (Some at) item walked = walked

abbrev pub behind_one : Item → Walked → Walked
behind_one item walked = counted walked.too_deep item (looked_at item walked)

unfoldable pub behind_all : List Item → Walked → Walked
behind_all [] walked = walked
behind_all (item ∷ more) walked = behind_all more (behind_one item walked)

-- at most 200 elements are open, and no more are passed over
pub record IsSteady (walked : Walked) : Type 0 where
  pub few : walked.depth ≤ 200
  pub passed : walked.built.passed ≤ walked.depth

-- what is answered behind all items
abbrev pub Yields : Walked → Result (Vec Element Global) XReadFault → Type 0
Yields walked (Ok elements) = (walked.fault ≡ None) × (walked.too_deep ≡ None) × (listed elements.items ≡ walked.built.inner.children)
Yields walked (Err (faults.BadMarkup at)) = walked.fault ≡ Some at
Yields walked (Err (faults.TooDeep at)) = (walked.fault ≡ None) × (walked.too_deep ≡ Some at)
Yields walked (Err faults.NoMemory) = Unit {0}
Yields walked (Err _) = ⊥
