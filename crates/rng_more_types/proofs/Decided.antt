-- The answers decide what is accepted and what is the same.
use Rattle.std.proofs.Common.{◌≡◌, ℕ, Bool, true, ◌&&◌, ◌==◌, eqb, List, length, Option, Some, None, refl, sym, ap, ◌∙◌}
use Rattle.std.specs.Prelude.{is_some}
use Rattle.std.specs.Bool.{beq}
use Rattle.std.specs.Str.{bytes_eq}
use Rattle.std.specs.Cmp.{booleans_Decides}
use Rattle.std.proofs.lemmas.Bool.{and_parts, and_from, eqb-true, eq-eqb, false≢true}
use Rattle.std.proofs.lemmas.Slice.Eq.{bytes_eq-Decides}
use Rattle.rng_more_types.specs.Spaces.{trimmed}
use Rattle.rng_more_types.specs.Literals.{Literal, spelled, Moment, moment_of}
use Rattle.rng_more_types.specs.Reading.{moment_read}
use Rattle.rng_more_types.specs.MoreTypes.{Writes, IsMoment, AreSameMoment, is_same_moment, are_same_moment, hex_octets, base64_octets}
use Rattle.rng_more_types.specs.Laws.{LiteralIsDecided, SameIsDecided, SameIsReflexive, SameIsSymmetric, SameIsTransitive, SameHaveSameOctets}
use Rattle.rng_more_types.specs.declared.more_type.MoreType.{MoreType}
use Rattle.rng_more_types.specs.declared.more_type.MoreType.TheVariants.{Date, Time, DateTime, GYear, GYearMonth, HexBinary, Base64Binary}
use Rattle.rng_more_types.proofs.Basics.{some_value}
use Rattle.rng_more_types.proofs.Written.{literal_read}
use Rattle.rng_more_types.proofs.Read.{literal_written}

pub reads : (type : MoreType) (text : List ℕ) (literal : Literal) → Writes type text literal → moment_read type (trimmed text) ≡ Some (moment_of literal)
reads type text literal writes =
    ap (λ t. moment_read type t) writes.parts ∙ sym (ap (λ k. moment_read k (spelled literal)) writes.kind) ∙ literal_read literal writes.right

some_of : {A : Type 0} (found : Option A) → is_some found ≡ true → (x : A) × (found ≡ Some x)
some_of None is = absurd (false≢true is)
some_of (Some x) is = (x, refl)

pub moment_decided : (type : MoreType) (text : List ℕ) → (is_some (moment_read type (trimmed text)) ≡ true → IsMoment type text) × (IsMoment type text → is_some (moment_read type (trimmed text)) ≡ true)
moment_decided type text = (
  λ is.
      let found = some_of (moment_read type (trimmed text)) is in
      let stands = literal_written type (trimmed text) found.0 found.1 in
      record { literal = stands.literal; written = record { kind = stands.kind; right = stands.right; parts = stands.parts } },
  λ moment. ap is_some (reads type text moment.literal moment.written),
)

pub literal_decided : LiteralIsDecided
literal_decided Date text = moment_decided Date text
literal_decided Time text = moment_decided Time text
literal_decided DateTime text = moment_decided DateTime text
literal_decided GYear text = moment_decided GYear text
literal_decided GYearMonth text = moment_decided GYearMonth text
literal_decided HexBinary text = (λ is. is, λ is. is)
literal_decided Base64Binary text = (λ is. is, λ is. is)

moment : Bool → ℕ → List ℕ → Moment
moment zoned seconds fraction = record { zoned = zoned; seconds = seconds; fraction = fraction }

same_parts : (x y : Moment) → x.zoned ≡ y.zoned → x.seconds ≡ y.seconds → x.fraction ≡ y.fraction → x ≡ y
unfolding moment
same_parts x y zoned seconds fraction =
    let one : moment x.zoned x.seconds x.fraction ≡ moment y.zoned x.seconds x.fraction = ap (λ z. moment z x.seconds x.fraction) zoned in
    let two : moment y.zoned x.seconds x.fraction ≡ moment y.zoned y.seconds x.fraction = ap (λ s. moment y.zoned s x.fraction) seconds in
    let three : moment y.zoned y.seconds x.fraction ≡ moment y.zoned y.seconds y.fraction = ap (λ f. moment y.zoned y.seconds f) fraction in
    one ∙ two ∙ three

same_moment : (x y : Moment) → is_same_moment x y ≡ true → x ≡ y
same_moment x y is =
    let parts = and_parts (beq x.zoned y.zoned) ((x.seconds == y.seconds) && bytes_eq x.fraction y.fraction) is in
    let more = and_parts (eqb x.seconds y.seconds) (bytes_eq x.fraction y.fraction) parts.1 in
    same_parts x y ((booleans_Decides x.zoned y.zoned).0 parts.0) (eqb-true x.seconds y.seconds more.0) ((bytes_eq-Decides x.fraction y.fraction).0 more.1)

moment_same : (x y : Moment) → x ≡ y → is_same_moment x y ≡ true
moment_same x y same =
    and_from (beq x.zoned y.zoned) ((x.seconds == y.seconds) && bytes_eq x.fraction y.fraction) ((booleans_Decides x.zoned y.zoned).1 (ap (λ m. m.zoned) same))
    (and_from (eqb x.seconds y.seconds) (bytes_eq x.fraction y.fraction) (eq-eqb x.seconds y.seconds (ap (λ m. m.seconds) same)) ((bytes_eq-Decides x.fraction y.fraction).1 (ap (λ m. m.fraction) same)))

both_read : (first second : Option Moment) (x y : Moment) → first ≡ Some x → second ≡ Some y → are_same_moment first second ≡ is_same_moment x y
both_read first second x y one two = rw (one, two) refl

same_moment_decided : (type : MoreType) (a b : List ℕ) → IsMoment type a → IsMoment type b
    → (are_same_moment (moment_read type (trimmed a)) (moment_read type (trimmed b)) ≡ true → AreSameMoment type a b) × (AreSameMoment type a b → are_same_moment (moment_read type (trimmed a)) (moment_read type (trimmed b)) ≡ true)
same_moment_decided type a b first second = (
  λ is.
      let answer = both_read (moment_read type (trimmed a)) (moment_read type (trimmed b)) (moment_of first.literal) (moment_of second.literal) (reads type a first.literal first.written) (reads type b second.literal second.written) in
      record {
        first = first.literal;
        second = second.literal;
        first_written = first.written;
        second_written = second.written;
        same = same_moment (moment_of first.literal) (moment_of second.literal) (sym answer ∙ is);
      },
  λ are.
      both_read (moment_read type (trimmed a)) (moment_read type (trimmed b)) (moment_of are.first) (moment_of are.second) (reads type a are.first are.first_written) (reads type b are.second are.second_written)
      ∙ moment_same (moment_of are.first) (moment_of are.second) are.same,
)

pub same_decided : SameIsDecided
same_decided Date a b first second = same_moment_decided Date a b first second
same_decided Time a b first second = same_moment_decided Time a b first second
same_decided DateTime a b first second = same_moment_decided DateTime a b first second
same_decided GYear a b first second = same_moment_decided GYear a b first second
same_decided GYearMonth a b first second = same_moment_decided GYearMonth a b first second
same_decided HexBinary a b first second = bytes_eq-Decides (hex_octets a) (hex_octets b)
same_decided Base64Binary a b first second = bytes_eq-Decides (base64_octets a) (base64_octets b)

along : (type : MoreType) (a b c : List ℕ) → AreSameMoment type a b → AreSameMoment type b c → AreSameMoment type a c
along type a b c one two = record {
  first = one.first;
  second = two.second;
  first_written = one.first_written;
  second_written = two.second_written;
  same = one.same ∙ some_value (moment_of one.second) (moment_of two.first) (sym (reads type b one.second one.second_written) ∙ reads type b two.first two.first_written) ∙ two.same;
}

pub same_transitive : SameIsTransitive
same_transitive Date a b c one two = along Date a b c one two
same_transitive Time a b c one two = along Time a b c one two
same_transitive DateTime a b c one two = along DateTime a b c one two
same_transitive GYear a b c one two = along GYear a b c one two
same_transitive GYearMonth a b c one two = along GYearMonth a b c one two
same_transitive HexBinary a b c one two = one ∙ two
same_transitive Base64Binary a b c one two = one ∙ two

itself : (type : MoreType) (a : List ℕ) → IsMoment type a → AreSameMoment type a a
itself type a is = record { first = is.literal; second = is.literal; first_written = is.written; second_written = is.written; same = refl }

pub same_reflexive : SameIsReflexive
same_reflexive Date a is = itself Date a is
same_reflexive Time a is = itself Time a is
same_reflexive DateTime a is = itself DateTime a is
same_reflexive GYear a is = itself GYear a is
same_reflexive GYearMonth a is = itself GYearMonth a is
same_reflexive HexBinary a is = refl
same_reflexive Base64Binary a is = refl

turned : (type : MoreType) (a b : List ℕ) → AreSameMoment type a b → AreSameMoment type b a
turned type a b are = record { first = are.second; second = are.first; first_written = are.second_written; second_written = are.first_written; same = sym are.same }

pub same_symmetric : SameIsSymmetric
same_symmetric Date a b are = turned Date a b are
same_symmetric Time a b are = turned Time a b are
same_symmetric DateTime a b are = turned DateTime a b are
same_symmetric GYear a b are = turned GYear a b are
same_symmetric GYearMonth a b are = turned GYearMonth a b are
same_symmetric HexBinary a b are = sym are
same_symmetric Base64Binary a b are = sym are

pub same_octets : SameHaveSameOctets
same_octets Date a b are = refl
same_octets Time a b are = refl
same_octets DateTime a b are = refl
same_octets GYear a b are = refl
same_octets GYearMonth a b are = refl
same_octets HexBinary a b are = ap (λ x. Some (length x)) are
same_octets Base64Binary a b are = ap (λ x. Some (length x)) are
