-- What the look-ups of the program say. No public contract rests on this.
use Rattle.std.specs.Prelude.{ℕ, if◌then◌else◌, List, [], Option, Some, None, Vec, codes}
use Rattle.std.specs.Global.{Global}
use Rattle.std.specs.BTreeMap.{BTreeMap, get_by}
use Rattle.std.specs.Cmp.Lexicographic.{slice_cmp}
use Rattle.std.specs.Ordering.{nat_cmp}
use Rattle.std.specs.Str.{bytes_eq}
use Rattle.rnc_parse.specs.declared.scope.LookUps.{LookUps}
use Rattle.rnc_parse.specs.declared.surface.Namespace.{Namespace}
use Rattle.rnc_parse.specs.declared.surface.Namespace.TheVariants.{Inherited, Uri}
use Rattle.rnc_parse.specs.Scopes.{Scope, xml_uri, xsd_uri, or_else}

-- what stands in a map under the bytes
abbrev pub held : {A : Type 0} → BTreeMap (Vec ℕ Global) A → List ℕ → Option A
held entries prefix = get_by (λ key. slice_cmp nat_cmp prefix key.items) entries

abbrev pub namespace_of : Option Namespace → Namespace
namespace_of (Some ns) = ns
namespace_of None = Inherited

abbrev pub scope_in : LookUps → Scope
scope_in look_ups = record {
  namespace = λ prefix.
      if look_ups.any then Some Inherited
      else (if bytes_eq prefix (codes "xml") then Some (Uri xml_uri) else held look_ups.namespaces prefix);
  unprefixed = namespace_of look_ups.unprefixed;
  library = λ prefix.
      if look_ups.any then Some []
      else or_else (held look_ups.libraries prefix) (if bytes_eq prefix (codes "xsd") then Some xsd_uri else None);
}
