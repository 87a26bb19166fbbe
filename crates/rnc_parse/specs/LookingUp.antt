-- Look-ups made of declarations. No public contract rests on this.
use Rattle.std.specs.Prelude.{◌≡◌, ℕ, Bool, true, false, if◌then◌else◌, List, [], ◌∷◌, Option, Some, None, codes, Result, Ok, Err}
use Rattle.std.specs.Str.{bytes_eq}
use Rattle.rnc_parse.specs.declared.declaration.Declaration.{Declaration}
use Rattle.rnc_parse.specs.declared.declaration.Declaration.TheVariants as declaration
use Rattle.rnc_parse.specs.declared.surface.Namespace.{Namespace}
use Rattle.rnc_parse.specs.declared.surface.Namespace.TheVariants.{Inherited, Uri}
use Rattle.rnc_parse.specs.declared.scope.LookUps.{LookUps}
use Rattle.rnc_parse.specs.declared.scope.Clash.{Clash}
use Rattle.rnc_parse.specs.declared.scope.Clash.TheVariants as clash
use Rattle.rnc_parse.specs.Scopes.{scope_of, declared_namespace, declared_library, IsDeclaredTwice, AreInOrder, xml_uri}
use Rattle.rnc_parse.specs.Looking.{scope_in, held}

-- the look-ups say what the declarations say, which are in order; or a prefix is declared twice, unless memory runs out
abbrev pub LooksUp : List Declaration → Result LookUps Clash → Type 0
LooksUp declarations (Ok look_ups) = (scope_in look_ups ≡ scope_of declarations) × AreInOrder declarations
LooksUp declarations (Err (clash.Twice prefix)) = IsDeclaredTwice declarations prefix
LooksUp declarations (Err clash.NoMemory) = Unit {0}

-- ---- one declaration after another

-- the namespace of the first default, if there is one
abbrev pub given_default : List Declaration → Option Namespace
given_default [] = None
given_default (declaration.Namespace bound ns ∷ more) = given_default more
given_default (declaration.Default bound ns ∷ more) = Some ns
given_default (declaration.Datatypes bound uri ∷ more) = given_default more

-- the look-ups say what the declarations so far say, which are in order
pub record HoldsSoFar (look_ups : LookUps) (done : List Declaration) : Type 0 where
  pub none : look_ups.any ≡ false
  pub names : (prefix : List ℕ) → held look_ups.namespaces prefix ≡ declared_namespace done prefix
  pub libraries : (prefix : List ℕ) → held look_ups.libraries prefix ≡ declared_library done prefix
  pub unprefixed : look_ups.unprefixed ≡ given_default done
  pub in_order : AreInOrder done

-- the look-ups say what the declarations say, or a prefix is declared twice, unless memory runs out
abbrev pub Declares : {A : Type 0} → List Declaration → LookUps → Result A Clash → Type 0
Declares declarations look_ups (Ok done) = HoldsSoFar look_ups declarations
Declares declarations look_ups (Err (clash.Twice prefix)) = IsDeclaredTwice declarations prefix
Declares declarations look_ups (Err clash.NoMemory) = Unit {0}

-- the namespace of `xml`
abbrev pub is_of_xml : Namespace → Bool
is_of_xml Inherited = false
is_of_xml (Uri uri) = bytes_eq uri xml_uri

-- `xmlns` is bound to no namespace, and `xml` to its own
abbrev pub may_be_bound : List ℕ → Namespace → Bool
may_be_bound prefix ns = if bytes_eq prefix (codes "xmlns") then false else (if bytes_eq prefix (codes "xml") then is_of_xml ns else true)
