-- Names of ASCII letters, digits and the like have no colon and the form of a name.
use Rattle.std.proofs.Common.{◌≡◌, ℕ, zero, suc, ◌+◌, ◌<◌, ◌≤◌, Bool, true, false, cond, List, [], ◌∷◌, length, refl, ap, sym, subst, ◌∙◌, arith, ⊎_elim}
use Rattle.std.specs.Prelude.{◌&&◌, ◌||◌, not, nat_lt}
use Rattle.std.specs.List.{list_all, position_or_len, before_first, after_first}
use Rattle.std.specs.Str.{IsAscii}
use Rattle.std.proofs.lemmas.Bool.{false≢true, and_parts, and_from, cases_lt}
use Rattle.std.proofs.lemmas.Bool.Decides.{nat_tests}
use Rattle.std.proofs.lemmas.Str.{chars-IsAscii}
use Rattle.std.proofs.lemmas.Str.Ascii.{IsAscii-nil, IsAscii-cons}
use Rattle.nx_base.specs.Characters.{is_name_start, is_name_char}
use Rattle.nx_events.specs.Names.{begins_unprefixed, goes_on_unprefixed, is_unprefixed, is_ncname, is_colon, has_colon, prefix_of, local_of, is_qname}
use Rattle.nx_events.specs.PlainNames.{is_plain_start, is_plain_further, is_plain_name}

-- a test holds of all numbers below one
unfoldable pub every : ℕ → (ℕ → Bool) → Bool
every zero p = true
every (suc n) p = p n && every n p

pub every_at : (n b : ℕ) (p : ℕ → Bool) → every n p ≡ true → b < n → p b ≡ true
unfolding every
every_at zero b p e h = absurd (omega arith)
every_at (suc n) b p e h =
    let t = and_parts (p n) (every n p) e in
    ⊎_elim
    (λ (k : b < n). every_at n b p t.1 k)
    (λ (k : n ≤ b). let same : n ≡ b = omega (arith, h, k) in subst (λ m. p m ≡ true) same t.0)
    (cases_lt b n)

pub implies : (a b : Bool) → (not a || b) ≡ true → a ≡ true → b ≡ true
implies true b e h = e
implies false b e h = absurd (false≢true h)

-- of ASCII that is seen by trying each
starts_begin : every 128 (λ b. not (is_plain_start b) || begins_unprefixed b) ≡ true
unfolding every begins_unprefixed is_name_start
starts_begin = refl

others_go_on : every 128 (λ b. not (is_plain_further b) || goes_on_unprefixed b) ≡ true
unfolding every goes_on_unprefixed is_name_char is_name_start
others_go_on = refl

pub start_small : (b : ℕ) → is_plain_start b ≡ true → b < 128
start_small b h = grind (arith, nat_tests)

pub further_small : (b : ℕ) → is_plain_further b ≡ true → b < 128
further_small b h = grind (arith, nat_tests)

begins : (b : ℕ) → is_plain_start b ≡ true → begins_unprefixed b ≡ true
begins b h =
    implies (is_plain_start b) (begins_unprefixed b) (every_at 128 b (λ c. not (is_plain_start c) || begins_unprefixed c) starts_begin (start_small b h)) h

goes_on : (b : ℕ) → is_plain_further b ≡ true → goes_on_unprefixed b ≡ true
goes_on b h =
    implies (is_plain_further b) (goes_on_unprefixed b) (every_at 128 b (λ c. not (is_plain_further c) || goes_on_unprefixed c) others_go_on (further_small b h)) h

all_go_on : (bytes : List ℕ) → list_all is_plain_further bytes ≡ true → IsAscii bytes × (list_all goes_on_unprefixed bytes ≡ true)
all_go_on [] h = (IsAscii-nil, refl)
all_go_on (b ∷ bytes) h =
    let t = and_parts (is_plain_further b) (list_all is_plain_further bytes) h in
    let rest = all_go_on bytes t.1 in
    (IsAscii-cons b bytes (further_small b t.0) rest.0, and_from (goes_on_unprefixed b) (list_all goes_on_unprefixed bytes) (goes_on b t.0) rest.1)

pub plain_name : (name : List ℕ) → is_plain_name name ≡ true → is_ncname name ≡ true
unfolding is_ncname
plain_name [] h = absurd (false≢true h)
plain_name (b ∷ bytes) h =
    let t = and_parts (is_plain_start b) (list_all is_plain_further bytes) h in
    let rest = all_go_on bytes t.1 in
    ap is_unprefixed (chars-IsAscii (b ∷ bytes) (IsAscii-cons b bytes (start_small b t.0) rest.0))
    ∙ and_from (begins_unprefixed b) (list_all goes_on_unprefixed bytes) (begins b t.0) rest.1

-- no colon stands in it
starts_without : (b : ℕ) → is_plain_start b ≡ true → not (is_colon b) ≡ true
unfolding begins_unprefixed
starts_without b h = (and_parts (is_name_start b) (not (is_colon b)) (begins b h)).1

goes_on_without : (b : ℕ) → is_plain_further b ≡ true → not (is_colon b) ≡ true
unfolding goes_on_unprefixed
goes_on_without b h = (and_parts (is_name_char b) (not (is_colon b)) (goes_on b h)).1

one_further : (b : ℕ) (bytes : List ℕ) → not (is_colon b) ≡ true → position_or_len is_colon bytes ≡ length bytes → position_or_len is_colon (b ∷ bytes) ≡ suc (length bytes)
one_further b bytes h e =
    let next : 1 + position_or_len is_colon bytes ≡ suc (length bytes) = omega (arith, e) in
    ap (λ t. cond t (1 + position_or_len is_colon bytes) 0) h ∙ next

none_behind : (bytes : List ℕ) → list_all is_plain_further bytes ≡ true → position_or_len is_colon bytes ≡ length bytes
none_behind [] h = refl
none_behind (b ∷ bytes) h =
    let t = and_parts (is_plain_further b) (list_all is_plain_further bytes) h in
    one_further b bytes (goes_on_without b t.0) (none_behind bytes t.1)

at_end : (m n : ℕ) → m ≡ n → nat_lt m n ≡ false
at_end m n e = grind (arith, nat_tests)

no_colon : (name : List ℕ) → is_plain_name name ≡ true → has_colon name ≡ false
no_colon [] h = absurd (false≢true h)
no_colon (b ∷ bytes) h =
    let t = and_parts (is_plain_start b) (list_all is_plain_further bytes) h in
    at_end (position_or_len is_colon (b ∷ bytes)) (suc (length bytes)) (one_further b bytes (starts_without b t.0) (none_behind bytes t.1))

-- so it is a qualified name without a prefix
pub plain_parts : (name : List ℕ) → is_plain_name name ≡ true → (is_qname name ≡ true) × ([] ≡ prefix_of name) × (name ≡ local_of name)
unfolding is_qname prefix_of local_of
plain_parts name h =
    let none = no_colon name h in (
      ap (λ t. (not t || is_ncname (cond t (before_first is_colon name) [])) && is_ncname (cond t (after_first is_colon name) name)) none ∙ plain_name name h,
      sym (ap (λ (t : Bool). cond t (before_first is_colon name) []) none),
      sym (ap (λ (t : Bool). cond t (after_first is_colon name) name) none),
    )
