-- Each text denotes a URI against a base, or it is a bad one: the parser of URLs, as it is defined, never wants room.
use Rattle.std.specs.Prelude.{if◌then◌else◌, ◌&&◌, ◌==◌, ◌^◌, nat_lt, not, slice_index, slice_range, unwrap_or, take, drop}
use Rattle.std.proofs.Common.{◌≡◌, refl, sym, ap, ◌∙◌, ℕ, ◌-◌, ◌≤◌, Bool, true, false, inl, inr, ◌⊎◌, List, [], length, Option, Some, None, Ok, Err}
use Rattle.std.specs.Char.{is_ascii_digit}
use Rattle.std.specs.List.{list_all, list_any}
use Rattle.std.specs.Net.Reader.{whole_value, read_ipv6}
use Rattle.std.specs.Result.{result_map_both}
use Rattle.std.specs.Str.Parse.{digits_value}
use Rattle.std.proofs.lemmas.Bool.{cases_lt, false≢true}
use Rattle.nx_host.specs.Uri.{uri_limit, Joins, IsBadUri, TextsJoinOrAreBad}
use Rattle.percent_encoding.specs.Percent.{percent_decode}
use Rattle.url.specs.declared.error.ParseError.{ParseError}
use Rattle.url.specs.declared.error.ParseError.TheVariants as error
use Rattle.url.specs.declared.host.Host.{Host}
use Rattle.url.specs.declared.scheme.SchemeType.{SchemeType}
use Rattle.url.specs.declared.scheme.SchemeType.TheVariants as scheme
use Rattle.url.specs.Ascii.{at_sign, left_bracket, number_sign, question_mark, right_bracket}
use Rattle.url.specs.Host.{is_forbidden_in_domain, is_forbidden_in_host, ipv6_host, parse_bracketed, ipv4_host, ascii_domain, host_of_ascii, parse_special_host, parse_opaque_host, without_localhost, parse_file_host, parse_host}
use Rattle.url.specs.Input.{is_empty, trim_c0_control_and_space, strip_tabs_and_new_lines, lowercase, split_once, rsplit_once}
use Rattle.url.specs.Ipv4.{ends_in_a_number, parse_ipv4}
use Rattle.url.specs.Parser.{Parsed, and_then, IsOutOfRoom, split_port, lacks_host, parse_port, parse_authority, leading_slashes, skip_slashes, after_double_slash, parse_non_special, after_slashes, parse_relative, after_file_double_slash, parse_file, parse_not_file, parse_body, parse_all, parse_parts, split_scheme, base_for_scheme, is_fragment_only, parse_without_scheme, parse_by_scheme, parse_url}
use Rattle.url.specs.Parts.{Parts, serialize, kind_of, cannot_be_a_base}
use Rattle.url.specs.Path.{segment_len, is_windows_drive_letter}
use Rattle.url.specs.Scheme.{scheme_type, is_special, is_file}

-- it isn't refused for want of room
record HasRoom {T : Type 0} (result : Parsed T) : Type 0 where
  never : (e : ParseError) → result ≡ Err e → IsOutOfRoom e → ⊥

abbrev is_want : ParseError → Bool
is_want error.Overflow = true
is_want error.OutOfMemory = true
is_want e = false

want_is : (e : ParseError) → IsOutOfRoom e → is_want e ≡ true
want_is e (inl h) = ap is_want h
want_is e (inr h) = ap is_want h

found : {T : Type 0} (x : T) → HasRoom {T = T} (Ok x)
found x = record { never = λ e is want. let never : ⊥ = cc in never }

refused : {T : Type 0} (e : ParseError) → is_want e ≡ false → HasRoom {T = T} (Err e)
refused e other = record { never = λ f is want. let same : e ≡ f = cc in false≢true (sym other ∙ ap is_want same ∙ want_is f want) }

room_if : {T : Type 0} (b : Bool) (one other : Parsed T) → HasRoom one → HasRoom other → HasRoom (if b then one else other)
room_if true one other h k = h
room_if false one other h k = k

same_error : {T : Type 0} (e f : ParseError) → ◌≡◌ {A = Parsed T} (Err e) (Err f) → e ≡ f
same_error e f h = cc

room_then : {T U : Type 0} (first : Parsed T) (next : T → Parsed U) → HasRoom first → ((x : T) → HasRoom (next x)) →
    HasRoom (and_then first next)
room_then (Ok x) next h each = each x
room_then {T} {U} (Err e) next h each =
    record { never = λ f is want. h.never f (ap (λ g. Err g) (same_error {T = U} e f is)) want }

-- ---- hosts

ipv6_room : (o : Option (List ℕ)) → HasRoom (ipv6_host o)
ipv6_room (Some segments) = found _
ipv6_room None = refused error.InvalidIpv6Address refl

bracketed_room : (bytes : List ℕ) → HasRoom (parse_bracketed bytes)
unfolding parse_bracketed
bracketed_room bytes =
    room_if (slice_index bytes (length bytes - 1) == right_bracket) _ _
    (ipv6_room (whole_value (read_ipv6 (slice_range bytes 1 (length bytes - 1))))) (refused error.InvalidIpv6Address refl)

ipv4_room : (o : Option ℕ) → HasRoom (ipv4_host o)
ipv4_room (Some bits) = found _
ipv4_room None = refused error.InvalidIpv4Address refl

domain_room : (o : Option (List ℕ)) → HasRoom (host_of_ascii o)
domain_room None = refused error.IdnaError refl
domain_room (Some domain) =
    room_if (is_empty domain) _ _ (refused error.EmptyHost refl)
    (room_if (list_any is_forbidden_in_domain domain) _ _ (refused error.IdnaError refl)
    (room_if (ends_in_a_number domain) _ _ (ipv4_room (parse_ipv4 domain)) (found _)))

special_room : (bytes : List ℕ) → HasRoom (parse_special_host bytes)
unfolding parse_special_host
special_room bytes =
    room_if (slice_index bytes 0 == left_bracket) _ _ (bracketed_room bytes) (domain_room (ascii_domain (percent_decode bytes)))

opaque_room : (bytes : List ℕ) → HasRoom (parse_opaque_host bytes)
unfolding parse_opaque_host
opaque_room bytes =
    room_if (slice_index bytes 0 == left_bracket) _ _ (bracketed_room bytes)
    (room_if (list_any is_forbidden_in_host bytes) _ _ (refused error.InvalidDomainCharacter refl) (found _))

mapped_room : (host : Parsed (Host (List ℕ))) → HasRoom host → HasRoom (result_map_both without_localhost (λ e. e) host)
mapped_room (Ok host) h = found (without_localhost host)
mapped_room (Err e) h = record { never = λ f is want. h.never f (ap (λ g. Err g) (same_error {T = Host (List ℕ)} e f is)) want }

file_host_room : (bytes : List ℕ) → HasRoom (parse_file_host bytes)
unfolding parse_file_host
file_host_room bytes = room_if (is_empty bytes) _ _ (found _) (mapped_room (parse_special_host bytes) (special_room bytes))

host_room : (kind : SchemeType) (bytes : List ℕ) → HasRoom (parse_host kind bytes)
host_room scheme.File bytes = file_host_room bytes
host_room scheme.SpecialNotFile bytes = special_room bytes
host_room scheme.NotSpecial bytes = opaque_room bytes

-- ---- the parts of a URL

port_room : (of digits : List ℕ) → HasRoom (parse_port of digits)
unfolding parse_port
port_room of digits =
    room_if (is_empty digits) _ _ (found _)
    (room_if (list_all is_ascii_digit digits && nat_lt (digits_value 10 digits) (2 ^ 16)) _ _ (found _) (refused error.InvalidPort refl))

authority_room : (of bytes : List ℕ) → HasRoom (parse_authority of bytes)
unfolding parse_authority
authority_room of bytes =
    let at = rsplit_once at_sign bytes in
    let host_port = split_port at.1 in
    room_if (lacks_host at.0 host_port.0 host_port.1) _ _ (refused error.EmptyHost refl)
    (room_then (parse_host (scheme_type of) host_port.0) _ (host_room (scheme_type of) host_port.0) (λ host.
    room_then (parse_port of (unwrap_or host_port.1 [])) _ (port_room of (unwrap_or host_port.1 [])) (λ port. found _)))

double_slash_room : (of bytes : List ℕ) → HasRoom (after_double_slash of bytes)
unfolding after_double_slash
double_slash_room of bytes =
    let front = take (segment_len (scheme_type of) bytes) bytes in
    room_then (parse_authority of front) _ (authority_room of front) (λ head. found _)

non_special_room : (of body : List ℕ) → HasRoom (parse_non_special of body)
unfolding parse_non_special
non_special_room of body =
    room_if (leading_slashes scheme.NotSpecial body == 2) _ _ (double_slash_room of (drop 2 body))
    (room_if (leading_slashes scheme.NotSpecial body == 1) _ _ (found _) (found _))

relative_room : (base : Parts) (body : List ℕ) → HasRoom (parse_relative base body)
unfolding parse_relative
relative_room base body =
    room_if (leading_slashes (kind_of base) body == 2) _ _ (double_slash_room base.scheme (after_slashes (kind_of base) body)) (found _)

file_slash_room : (bytes : List ℕ) → HasRoom (after_file_double_slash bytes)
unfolding after_file_double_slash
file_slash_room bytes =
    let front = take (segment_len scheme.File bytes) bytes in
    room_if (is_windows_drive_letter front) _ _ (found _)
    (room_then (parse_file_host front) _ (file_host_room front) (λ host. found _))

file_room : (base : Option Parts) (body : List ℕ) → HasRoom (parse_file base body)
unfolding parse_file
file_room base body =
    room_if (leading_slashes scheme.File body == 2) _ _ (file_slash_room (drop (leading_slashes scheme.File body) body)) (found _)

not_file_room : (of : List ℕ) (base : Option Parts) (body : List ℕ) → HasRoom (parse_not_file of base body)
not_file_room of (Some base) body = relative_room base body
not_file_room of None body =
    room_if (is_special (scheme_type of)) _ _ (double_slash_room of (skip_slashes body)) (non_special_room of body)

body_room : (of : List ℕ) (base : Option Parts) (body : List ℕ) → HasRoom (parse_body of base body)
unfolding parse_body
body_room of base body = room_if (is_file (scheme_type of)) _ _ (file_room base body) (not_file_room of base body)

-- ---- the whole

all_room : (of : List ℕ) (base : Option Parts) (body : List ℕ) (query fragment : Option (List ℕ)) →
    HasRoom (parse_all of base body query fragment)
all_room of base body query fragment = room_then (parse_body of base body) _ (body_room of base body) (λ url. found _)

parts_room : (of : List ℕ) (base : Option Parts) (body : List ℕ) (query fragment : Option (List ℕ)) →
    HasRoom (parse_parts of base body query fragment)
unfolding parse_parts
parts_room of None body query fragment = all_room of None body query fragment
parts_room of (Some base) body query fragment =
    room_if (is_empty body) _ _ (found _) (all_room of (Some base) body query fragment)

no_scheme_room : (base : Option Parts) (body : List ℕ) (query fragment : Option (List ℕ)) →
    HasRoom (parse_without_scheme base body query fragment)
no_scheme_room None body query fragment = refused error.RelativeUrlWithoutBase refl
no_scheme_room (Some base) body query fragment =
    room_if (cannot_be_a_base base && not (is_fragment_only body query fragment)) _ _
    (refused error.RelativeUrlWithCannotBeABaseBase refl) (parts_room base.scheme (Some base) body query fragment)

scheme_room : (split : Option (List ℕ × List ℕ)) (base : Option Parts) (body : List ℕ) (query fragment : Option (List ℕ)) →
    HasRoom (parse_by_scheme split base body query fragment)
scheme_room None base body query fragment = no_scheme_room base body query fragment
scheme_room (Some split) base body query fragment =
    parts_room (lowercase split.0) (base_for_scheme base (lowercase split.0)) split.1 query fragment

url_room : (base : Option Parts) (text : List ℕ) → HasRoom (parse_url base text)
unfolding parse_url
url_room base text =
    let hash = split_once number_sign (strip_tabs_and_new_lines (trim_c0_control_and_space text)) in
    let question = split_once question_mark hash.0 in
    scheme_room (split_scheme question.0) base question.0 question.1 hash.1

-- ---- URIs

text_or_bad : (base text : List ℕ) → length text ≤ uri_limit → (parts : Parts) → parse_url None base ≡ Ok parts →
    (result : Parsed Parts) → parse_url (Some parts) text ≡ result → ((uri : List ℕ) × Joins base text uri) ⊎ IsBadUri base text
text_or_bad base text within parts is (Ok all) reads = inl (
  serialize all,
  record {
    within_limit = within;
    base_parts = parts;
    base_reads = is;
    parts = all;
    text_reads = reads;
    printed = refl;
  },
)
text_or_bad base text within parts is (Err e) none =
    inr (inr (inr (parts, e, is, none, λ want. (url_room (Some parts) text).never e none want)))

base_or_bad : (base text : List ℕ) → length text ≤ uri_limit → (result : Parsed Parts) → parse_url None base ≡ result →
    ((uri : List ℕ) × Joins base text uri) ⊎ IsBadUri base text
base_or_bad base text within (Ok parts) is = text_or_bad base text within parts is (parse_url (Some parts) text) refl
base_or_bad base text within (Err e) none = inr (inr (inl (e, none, λ want. (url_room None base).never e none want)))

pub joins_or_bad : TextsJoinOrAreBad
joins_or_bad base text = elim (cases_lt uri_limit (length text)) [
  | inl long ↦ inr (inl long)
  | inr within ↦ base_or_bad base text within (parse_url None base) refl
]
