-- What a tag spells is read.
use Rattle.std.proofs.Common.{◌≡◌, ℕ, suc, ◌+◌, ◌-◌, ◌<◌, ◌≤◌, Bool, true, false, cond, List, [], ◌∷◌, ◌++◌, length, take, drop, refl, ap, sym, subst, ◌∙◌, arith, append_assoc, length-append}
use Rattle.std.specs.Prelude.{◌&&◌, ◌||◌, ◌==◌, not, nat_le, slice_index}
use Rattle.std.specs.List.{AllByRecursion, position_or_len, prefix_len}
use Rattle.std.proofs.lemmas.List.{take_at, drop_at, append-nil}
use Rattle.std.proofs.Math.Seq.{drop-append-add}
use Rattle.std.proofs.lemmas.Bool.Decides.{Decides-eqb, nat_tests}
use Rattle.nx_base.specs.Characters.{is_space, is_quote}
use Rattle.nx_events.specs.Strings.{string_of}
use Rattle.nx_events.specs.Tags.{is_between, ends_name, written_name, quote_place, value_len, written_value, attribute_len, begins_attribute, attribute_at, front_attribute, front_len, attributes_from, tag_attributes}
use Rattle.nx_events.specs.declared.reading.Reading.TheVariants.{Value}
use Rattle.nx_events.specs.declared.tag.Attribute.{Attribute}
use Rattle.nx_events.specs.Spelling.{Written, AreSpaces, IsNameByte, IsWritten, middle, spelled_before, spelled_all, value_from, end_from, read_from, read_all, AreBetween, TagsAreRead}
use Rattle.nx_events.proofs.Tags.{attributes_step, one_begins}

-- the first byte that passes
pub first_at : (p : ℕ → Bool) (ys zs : List ℕ) (b : ℕ) → AllByRecursion (λ (y : ℕ). p y ≡ false) ys → p b ≡ true → position_or_len p (ys ++ b ∷ zs) ≡ length ys
first_at p [] zs b h e = ap (λ (t : Bool). cond (not t) (1 + prefix_len (λ x. not (p x)) zs) 0) e
first_at p (y ∷ ys) zs b h e =
    let rest = first_at p ys zs b h.1 e in
    let next : 1 + length ys ≡ suc (length ys) = omega arith in
    ap (λ (t : Bool). cond (not t) (1 + position_or_len p (ys ++ b ∷ zs)) 0) h.0 ∙ ap (λ (n : ℕ). 1 + n) rest ∙ next

joined_all : (p : ℕ → Bool) (xs ys : List ℕ) → AllByRecursion (λ (y : ℕ). p y ≡ false) xs → AllByRecursion (λ (y : ℕ). p y ≡ false) ys → AllByRecursion (λ (y : ℕ). p y ≡ false) (xs ++ ys)
joined_all p [] ys h k = k
joined_all p (x ∷ xs) ys h k = (h.0, joined_all p xs ys h.1 k)

-- white space is between attributes, and no quote
pub space_between : (b : ℕ) → is_space b ≡ true → is_between b ≡ true
space_between b e = ap (λ (t : Bool). t || (b == 47) || (b == 62)) e

space_no_quote : (b : ℕ) → is_space b ≡ true → is_quote b ≡ false
unfolding is_space
space_no_quote b e = grind (arith, nat_tests)

spaces_no_quotes : (xs : List ℕ) → AreSpaces xs → AllByRecursion (λ (y : ℕ). is_quote y ≡ false) xs
spaces_no_quotes [] h = tt
spaces_no_quotes (x ∷ xs) h = (space_no_quote x h.0, spaces_no_quotes xs h.1)

names_no_quotes : (xs : List ℕ) → AllByRecursion IsNameByte xs → AllByRecursion (λ (y : ℕ). is_quote y ≡ false) xs
names_no_quotes [] h = tt
names_no_quotes (x ∷ xs) h = (h.0.no_quote, names_no_quotes xs h.1)

names_go_on : (xs : List ℕ) → AllByRecursion IsNameByte xs → AllByRecursion (λ (y : ℕ). ends_name y ≡ false) xs
names_go_on [] h = tt
names_go_on (x ∷ xs) h = (h.0.goes_on, names_go_on xs h.1)

-- what stands between attributes is passed
pass_one : (at b : ℕ) (xs : List ℕ) → is_between b ≡ true → attributes_from 0 at (b ∷ xs) ≡ attributes_from 0 (at + 1) xs
unfolding attributes_from front_attribute front_len begins_attribute
pass_one at b xs e =
    let none : begins_attribute (b ∷ xs) ≡ false = ap (λ (t : Bool). not t && nat_le (attribute_len (b ∷ xs)) (suc (length xs))) e in
    ap (λ (t : Bool). cond t (attribute_at at (b ∷ xs) ∷ []) [] ++ attributes_from (cond t (attribute_len (b ∷ xs)) 1 - 1) (at + 1) xs) none

pass_all : (at : ℕ) (bs xs : List ℕ) → AreBetween bs → attributes_from 0 at (bs ++ xs) ≡ attributes_from 0 (at + length bs) xs
pass_all at [] xs h = let e : at ≡ at + 0 = omega arith in ap (λ (k : ℕ). attributes_from 0 k xs) e
pass_all at (b ∷ bs) xs h =
    let e : at + 1 + length bs ≡ at + suc (length bs) = omega arith in
    pass_one at b (bs ++ xs) h.0 ∙ pass_all (at + 1) bs xs h.1 ∙ ap (λ (k : ℕ). attributes_from 0 k xs) e

pub spaces_between : (xs : List ℕ) → AreSpaces xs → AreBetween xs
spaces_between [] h = tt
spaces_between (x ∷ xs) h = (space_between x h.0, spaces_between xs h.1)

-- the name ends where what is between it and its value begins
ends_with_equals : ends_name 61 ≡ true
unfolding is_space
ends_with_equals = refl

pub space_ends : (b : ℕ) → is_space b ≡ true → ends_name b ≡ true
space_ends b e = ap (λ (t : Bool). t || (b == 61)) (space_between b e)

name_before : (name before rest : List ℕ) → AllByRecursion IsNameByte name → AreSpaces before → position_or_len ends_name (name ++ (before ++ 61 ∷ rest)) ≡ length name
name_before name [] rest h k = first_at ends_name name rest 61 (names_go_on name h) ends_with_equals
name_before name (b ∷ before) rest h k = first_at ends_name name (before ++ 61 ∷ rest) b (names_go_on name h) (space_ends b k.0)

byte_at : (ys zs : List ℕ) (b : ℕ) → slice_index (ys ++ b ∷ zs) (length ys) ≡ b
byte_at [] zs b = refl
byte_at (y ∷ ys) zs b = byte_at ys zs b

same_byte : (b : ℕ) → (b == b) ≡ true
same_byte b = (Decides-eqb b b).1 refl

pub record IsRead (it : Written) (rest xs : List ℕ) : Type 0 where
  pub quote : quote_place xs ≡ length (it.name ++ middle it)
  pub name : written_name xs ≡ it.name
  pub len : value_len xs ≡ length it.value
  pub value : written_value xs ≡ it.value

-- the parts of an attribute at the front are read
reads : (it : Written) (rest : List ℕ) → IsWritten it → IsRead it rest (spelled_before it rest)
unfolding written_name value_len written_value
reads it rest h =
    let ys = it.name ++ middle it in
    let zs = it.value ++ it.quote ∷ rest in
    let xs = spelled_before it rest in
    let quiet = joined_all is_quote it.name (middle it) (names_no_quotes it.name h.name) (joined_all is_quote it.before (61 ∷ it.behind) (spaces_no_quotes it.before h.before) (refl, spaces_no_quotes it.behind h.behind)) in
    let quote : quote_place xs ≡ length ys = first_at is_quote ys zs it.quote quiet h.quote in
    let regroup : xs ≡ it.name ++ (it.before ++ 61 ∷ (it.behind ++ it.quote ∷ zs)) = simp append_assoc in
    let ends : position_or_len ends_name xs ≡ length it.name = ap (position_or_len ends_name) regroup ∙ name_before it.name it.before (it.behind ++ it.quote ∷ zs) h.name h.before in
    let named : take (position_or_len ends_name xs) xs ≡ it.name = ap (λ (n : ℕ). take n xs) ends ∙ ap (take (length it.name)) regroup ∙ take_at it.name (it.before ++ 61 ∷ (it.behind ++ it.quote ∷ zs)) (length it.name) refl in
    let opening : slice_index xs (quote_place xs) ≡ it.quote = ap (slice_index xs) quote ∙ byte_at ys zs it.quote in
    let left : drop (quote_place xs + 1) xs ≡ zs = ap (λ (n : ℕ). drop (n + 1) xs) quote ∙ drop-append-add ys (it.quote ∷ zs) 1 in
    let len : position_or_len (λ b. b == slice_index xs (quote_place xs)) (drop (quote_place xs + 1) xs) ≡ length it.value =
    ap (λ (q : ℕ). position_or_len (λ b. b == q) (drop (quote_place xs + 1) xs)) opening ∙ ap (position_or_len (λ b. b == it.quote)) left ∙ first_at (λ b. b == it.quote) it.value rest it.quote h.value (same_byte it.quote) in
    record {
      quote = quote;
      name = named;
      len = len;
      value = ap (λ (n : ℕ). take n (drop (quote_place xs + 1) xs)) len ∙ ap (take (length it.value)) left ∙ take_at it.value (it.quote ∷ rest) (length it.value) refl;
    }

-- an attribute at the front, and what is behind it
name_head : (it : Written) (rest : List ℕ) → IsWritten it → is_between (slice_index (spelled_before it rest) 0) ≡ false
name_head it rest h = by_name it.name h.some_name h.name
  where
    left : (t u : Bool) → (t || u) ≡ false → t ≡ false
    left false u e = refl
    left true u e = e

    by_name : (name : List ℕ) → 0 < length name → AllByRecursion IsNameByte name → is_between (slice_index ((name ++ middle it) ++ it.quote ∷ (it.value ++ it.quote ∷ rest)) 0) ≡ false
    by_name [] k n = absurd (omega arith)
    by_name (b ∷ name) k n = left (is_between b) (b == 61) n.0.goes_on

spelled_len : (it : Written) (rest : List ℕ) → length (spelled_before it rest) ≡ length (it.name ++ middle it) + length it.value + 2 + length rest
spelled_len it rest =
    let outer = length-append (it.name ++ middle it) (it.quote ∷ (it.value ++ it.quote ∷ rest)) in
    let inner = length-append it.value (it.quote ∷ rest) in
    omega (arith, outer, inner)

what_follows : (it : Written) (rest : List ℕ) (n : ℕ) → n ≡ length (it.name ++ middle it) + length it.value + 2 → drop n (spelled_before it rest) ≡ rest
what_follows it rest n e =
    let ys = it.name ++ middle it in
    let zs = it.value ++ it.quote ∷ rest in
    let count : n ≡ length ys + suc (length it.value + 1) = omega arith in
    ap (λ (k : ℕ). drop k (spelled_before it rest)) count ∙ drop-append-add ys (it.quote ∷ zs) (suc (length it.value + 1)) ∙ drop-append-add it.value (it.quote ∷ rest) 1

-- one attribute is read
one_read : (at : ℕ) (it : Written) (rest : List ℕ) → IsWritten it → attribute_at at (spelled_before it rest) ≡ read_from at it
unfolding attribute_at attribute_len
one_read at it rest h =
    let xs = spelled_before it rest in
    let r = reads it rest h in
    ap (λ (name : List ℕ). made name (written_value xs) at (at + (quote_place xs + value_len xs + 2)) (at + quote_place xs + 1) (at + quote_place xs + 1 + value_len xs)) r.name
    ∙ ap (λ (value : List ℕ). made it.name value at (at + (quote_place xs + value_len xs + 2)) (at + quote_place xs + 1) (at + quote_place xs + 1 + value_len xs)) r.value
    ∙ ap (λ (b : ℕ). made it.name it.value at b (at + quote_place xs + 1) (at + quote_place xs + 1 + value_len xs)) (let e : at + (quote_place xs + value_len xs + 2) ≡ end_from at it = omega (arith, r.quote, r.len) in e)
    ∙ ap (λ (c : ℕ). made it.name it.value at (end_from at it) c (at + quote_place xs + 1 + value_len xs)) (let e : at + quote_place xs + 1 ≡ value_from at it = omega (arith, r.quote) in e)
    ∙ ap (λ (d : ℕ). made it.name it.value at (end_from at it) (value_from at it) d) (let e : at + quote_place xs + 1 + value_len xs ≡ value_from at it + length it.value = omega (arith, r.quote, r.len) in e)
  where
    made : List ℕ → List ℕ → ℕ → ℕ → ℕ → ℕ → Attribute
    made name value a b c d = record { name = name; string = string_of Value value; span = record { from = a; to = b }; value = record { from = c; to = d } }

read_one : (at : ℕ) (it : Written) (rest : List ℕ) → IsWritten it →
    attributes_from 0 at (spelled_before it rest) ≡ read_from at it ∷ attributes_from 0 (end_from at it) rest
unfolding front_attribute front_len attribute_len
read_one at it rest h =
    let xs = spelled_before it rest in
    let r = reads it rest h in
    let n = length (it.name ++ middle it) + length it.value + 2 in
    let fits : quote_place xs + value_len xs + 2 ≤ length xs = omega (arith, r.quote, r.len, spelled_len it rest) in
    let begins = one_begins xs (name_head it rest h) fits in
    let size : n ≡ front_len xs = (let e : n ≡ attribute_len xs = omega (arith, r.quote, r.len) in e) ∙ sym (ap (λ (t : Bool). cond t (attribute_len xs) 1) begins) in
    let front : front_attribute at xs ≡ read_from at it ∷ [] = ap (λ (t : Bool). cond t (attribute_at at xs ∷ []) []) begins ∙ ap (λ (a : Attribute). a ∷ []) (one_read at it rest h) in
    let place : at + n ≡ end_from at it = omega arith in
    attributes_step at n xs size (omega arith) (omega (arith, spelled_len it rest))
    ∙ ap (λ (ys : List Attribute). ys ++ attributes_from 0 (at + n) (drop n xs)) front
    ∙ ap (λ (k : ℕ). read_from at it ∷ attributes_from 0 k (drop n xs)) place
    ∙ ap (λ (ys : List ℕ). read_from at it ∷ attributes_from 0 (end_from at it) ys) (what_follows it rest n refl)

nothing_left : (at : ℕ) → attributes_from 0 at [] ≡ []
unfolding attributes_from
nothing_left at = refl

all_read : (at : ℕ) (its : List Written) (closing : List ℕ) → AllByRecursion IsWritten its → AreBetween closing → attributes_from 0 at (spelled_all its closing) ≡ read_all at its
all_read at [] closing h k =
    ap (attributes_from 0 at) (sym (append-nil closing)) ∙ pass_all at closing [] k ∙ nothing_left (at + length closing)
all_read at (it ∷ its) closing h k =
    pass_all at it.space (spelled_before it (spelled_all its closing)) (spaces_between it.space h.0.space)
    ∙ read_one (at + length it.space) it (spelled_all its closing) h.0
    ∙ ap (λ (ys : List Attribute). read_from (at + length it.space) it ∷ ys) (all_read (end_from (at + length it.space) it) its closing h.1 k)

-- what follows the tag's name ends it
pub record Headed (xs : List ℕ) : Type 0 where
  pub head : ℕ
  pub tail : List ℕ
  pub is : xs ≡ head ∷ tail
  pub ends : ends_name head ≡ true

pub between_head : (xs rest : List ℕ) → AreBetween xs → 0 < length xs → Headed (xs ++ rest)
between_head [] rest h k = absurd (omega arith)
between_head (x ∷ xs) rest h k = record { head = x; tail = xs ++ rest; is = refl; ends = ap (λ (t : Bool). t || (x == 61)) h.0 }

headed : (its : List Written) (closing : List ℕ) → AllByRecursion IsWritten its → AllByRecursion (λ (it : Written). 0 < length it.space) its → AreBetween closing → 0 < length closing → Headed (spelled_all its closing)
headed [] closing w a h k = let P : List ℕ → Type 0 = λ xs. Headed xs in subst P (append-nil closing) (between_head closing [] h k)
headed (it ∷ its) closing w a h k = between_head it.space (spelled_before it (spelled_all its closing)) (spaces_between it.space w.0.space) a.0

pub name_read : (name rest : List ℕ) → AllByRecursion IsNameByte name → Headed rest → written_name (name ++ rest) ≡ name
unfolding written_name
name_read name rest h r =
    let ends : position_or_len ends_name (name ++ rest) ≡ length name =
    ap (λ (ys : List ℕ). position_or_len ends_name (name ++ ys)) r.is ∙ first_at ends_name name r.tail r.head (names_go_on name h) r.ends in
    ap (λ (n : ℕ). take n (name ++ rest)) ends ∙ take_at name rest (length name) refl

pub tags_are_read : TagsAreRead
unfolding tag_attributes
tags_are_read at name its closing t =
    let rest = spelled_all its closing in
    let named = name_read name rest t.named (headed its closing t.written t.apart t.closes t.closed) in
    let place : at + (1 + length name) ≡ at + 1 + length name = omega arith in
    let left : drop (1 + length name) (60 ∷ (name ++ rest)) ≡ rest =
    (let one : 1 + length name ≡ suc (length name) = omega arith in ap (λ (n : ℕ). drop n (60 ∷ (name ++ rest))) one) ∙ drop_at name rest (length name) refl in (
      named,
      ap (λ (n : List ℕ). attributes_from 0 (at + (1 + length n)) (drop (1 + length n) (60 ∷ (name ++ rest)))) named
          ∙ ap (λ (k : ℕ). attributes_from 0 k (drop (1 + length name) (60 ∷ (name ++ rest)))) place
          ∙ ap (attributes_from 0 (at + 1 + length name)) left
          ∙ all_read (at + 1 + length name) its closing t.written t.closes,
    )
