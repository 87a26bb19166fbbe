-- Names that a schema doesn't mention are admitted alike.
use Rattle.std.specs.Prelude.{ℕ, List, IsTrue}
use Rattle.std.specs.Str.{is_utf8}
use Rattle.nx_base.specs.declared.name.Name.{Name}
use Rattle.nx_base.specs.Names.{is_xml_name, is_attribute_name}
use Rattle.nx_base.specs.Trees.{Enter, Att}
use Rattle.rng_core.specs.Patterns.{Pattern, Language}
use Rattle.rng_kept.specs.Events.{IsAmong}
use Rattle.rng_kept.specs.Moves.{Move, take, attributes_of}
use Rattle.rng_kept.specs.KeptLists.{CanMove}
use Rattle.rng_kept.specs.Mentioned.{AreUnmentionedAlike}
use Rattle.rng_kept.specs.Residuals.{Residual}
use Rattle.rng_kept.specs.Live.{AreLive}
use Rattle.rng_kept.specs.Standing.{Stands}

-- as elements, behind moves for which some residual stands, and as attributes that the open tag hasn't yet
pub record AreAdmittedAlike (g : Language) (p : Pattern) (h : List Move) (n m : Name) : Type 0 where
  pub elements : IsTrue (is_xml_name n) → IsTrue (is_xml_name m) → CanMove g p h (take (Enter n)) → CanMove g p h (take (Enter m))
  pub attributes : (v : List ℕ) → IsTrue (is_utf8 v) → IsTrue (is_attribute_name n) → IsTrue (is_attribute_name m)
      → (IsAmong n (attributes_of h) → ⊥) → (IsAmong m (attributes_of h) → ⊥)
      → CanMove g p h (take (Att n v)) → CanMove g p h (take (Att m v))

abbrev pub UnmentionedNamesAlike : Type 0
UnmentionedNamesAlike = (g : Language) → AreLive g.definitions → (p : Pattern) (h : List Move) (x : Residual) → Stands g p h x
    → (n m : Name) → AreUnmentionedAlike g.definitions n m → AreAdmittedAlike g p h n m
