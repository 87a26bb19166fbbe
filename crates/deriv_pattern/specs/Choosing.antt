-- One walk over patterns serves for a given string or value and for any: here is which tests of leaves it makes.
use Rattle.std.specs.Prelude.{ℕ, List, Bool, true, false}
use Rattle.rng_core.specs.Patterns.{Pattern}
use Rattle.rng_kept.specs.Strings.{Tests, string_tests}
use Rattle.rng_kept.specs.SolidStrings.{solid_tests}
use Rattle.rng_kept.specs.Attributes.{value_fits}

-- of any value, or of this one
abbrev pub fits_of : Bool → List ℕ → Pattern → Bool
fits_of true v = λ q. true
fits_of false v = value_fits v

-- of some string that isn't blank, or of this one
abbrev pub tests_of : Bool → List ℕ → Tests
tests_of true t = solid_tests
tests_of false t = string_tests t
