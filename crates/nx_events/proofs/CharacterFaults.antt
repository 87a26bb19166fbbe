-- The faults of characters, a piece at a time.
use Rattle.std.proofs.Common.{◌≡◌, ℕ, ◌+◌, ◌-◌, ◌<◌, Bool, true, false, cond, Option, Some, None, List, [], ◌∷◌, ◌++◌, length, take, drop, refl, ap, sym, ◌∙◌, arith, append_assoc, subst, suc}
use Rattle.std.specs.Prelude.{◌==◌, ◌&&◌, ◌||◌}
use Rattle.std.proofs.lemmas.Bool.{false≢true}
use Rattle.std.proofs.lemmas.Bool.Decides.{Decides-eqb}
use Rattle.std.proofs.lemmas.List.{take_rest, append-nil}
use Rattle.std.proofs.lemmas.List.{map-append}
use Rattle.std.specs.List.{flat_map}
use Rattle.nx_base.specs.declared.fault.Fault.{Fault}
use Rattle.nx_base.specs.declared.fault.Span.{Span}
use Rattle.nx_base.specs.declared.fault.Kind.{Kind}
use Rattle.nx_base.specs.declared.fault.Kind.TheVariants.{BadChar}
use Rattle.nx_events.specs.declared.item.Item.{Item}
use Rattle.nx_events.specs.declared.item.Item.TheVariants as items
use Rattle.nx_events.specs.declared.reading.Reading.{Reading}
use Rattle.nx_events.specs.declared.character_fault.Told.{Told}
use Rattle.nx_events.specs.Strings.{Piece, cut_by, piece_len, pieces}
use Rattle.nx_events.specs.Faults.{bare_fault, bare_faults, faults_as_items}
use Rattle.nx_events.specs.CharacterFaults.{once, is_bad_char, is_bad_text, told_behind, new_faults, piece_flaw, piece_faults, faults_behind, character_faults}
use Rattle.nx_events.proofs.Pieces.{cut_first}

-- no kind is both
pub apart : (kind : Kind) → (is_bad_char kind && is_bad_text kind) ≡ false
apart BadChar = refl
apart _ = refl

pub kept_both : {A : Type 0} (b c : Bool) (x : List A) → cond b [] (cond c [] x) ≡ cond (c || b) [] x
kept_both true true x = refl
kept_both true false x = refl
kept_both false true x = refl
kept_both false false x = refl

pub told_both : (a b c t : Bool) → (c && t) ≡ false → cond (b && t) a (a || c) ≡ (a || c)
told_both true true true true e = absurd (false≢true (sym e))
told_both false true true true e = absurd (false≢true (sym e))
told_both true true true false e = refl
told_both true true false true e = refl
told_both true true false false e = refl
told_both true false true true e = refl
told_both true false true false e = refl
told_both true false false true e = refl
told_both true false false false e = refl
told_both false true true false e = refl
told_both false true false true e = refl
told_both false true false false e = refl
told_both false false true true e = refl
told_both false false true false e = refl
told_both false false false true e = refl
told_both false false false false e = refl

abbrev pub chars_once : Bool → List Fault → List Fault
chars_once told faults = once told is_bad_char faults

abbrev pub both_once : Told → List Fault → List Fault
both_once told faults = once told.bad_char is_bad_char (once told.bad_text is_bad_text faults)

pub by_inner : (a b : Bool) (f : Fault) (fs : List Fault) →
    chars_once a (cond b [] (f ∷ []) ++ fs) ≡ cond b [] (cond (a && is_bad_char f.kind) [] (f ∷ [])) ++ chars_once (cond b a (a || is_bad_char f.kind)) fs
unfolding once
by_inner a true f fs = refl
by_inner a false f fs = refl

one_fault : (told : Told) (flaw : Option Kind) (span : Span) (fs : List Fault) →
    both_once told (bare_faults flaw span ++ fs) ≡ new_faults told flaw span ++ both_once (told_behind told flaw) fs
unfolding once
one_fault told None span fs = refl
one_fault told (Some kind) span fs =
    let b = told.bad_text && is_bad_text kind in
    let f = bare_fault kind span in
    let rest = once (told.bad_text || is_bad_text kind) is_bad_text fs in
    by_inner told.bad_char b f rest
    ∙ ap (λ (x : List Fault). x ++ chars_once (cond b told.bad_char (told.bad_char || is_bad_char kind)) rest) (kept_both b (told.bad_char && is_bad_char kind) (f ∷ []))
    ∙ ap (λ (t : Bool). new_faults told (Some kind) span ++ chars_once t rest) (told_both told.bad_char told.bad_text (is_bad_char kind) (is_bad_text kind) (apart kind))

-- the faults of the piece at the front, and of what is behind it
pub faults_step : (told : Told) (reading : Reading) (at to : ℕ) (xs p : List ℕ) → p ≡ take (piece_len reading xs) xs → 0 < length p → to ≡ at + length p →
    faults_behind told reading at xs ≡ new_faults told (piece_flaw reading p) (record { from = at; to = to }) ++ faults_behind (told_behind told (piece_flaw reading p)) reading to (drop (length p) xs)
unfolding faults_behind
faults_step told reading at to xs p e h g =
    let P : ℕ → Type 0 = λ to. both_once told (flat_map (piece_faults reading) (pieces reading at xs)) ≡ new_faults told (piece_flaw reading p) (record { from = at; to = to }) ++ both_once (told_behind told (piece_flaw reading p)) (flat_map (piece_faults reading) (pieces reading to (drop (length p) xs))) in
    subst P (sym g)
    (ap (λ (ps : List Piece). both_once told (flat_map (piece_faults reading) ps)) (cut_first (piece_len reading) at xs p e h)
    ∙ one_fault told (piece_flaw reading p) (record { from = at; to = at + length p }) (flat_map (piece_faults reading) (pieces reading (at + length p) (drop (length p) xs))))

as_items_append : (xs ys : List Fault) → faults_as_items (xs ++ ys) ≡ faults_as_items xs ++ faults_as_items ys
as_items_append xs ys = map-append items.Fault xs ys

-- the faults of a piece more are told
pub faults_more : (told after : Told) (flaw : Option Kind) (reading : Reading) (at to : ℕ) (xs p : List ℕ) (old new all : List Item) →
    p ≡ take (piece_len reading xs) xs → 0 < length p → to ≡ at + length p → flaw ≡ piece_flaw reading p → after ≡ told_behind told flaw →
    new ≡ old ++ faults_as_items (new_faults told flaw (record { from = at; to = to })) →
    old ++ faults_as_items (faults_behind told reading at xs) ≡ all →
    new ++ faults_as_items (faults_behind after reading to (take (length xs - length p) (drop (length p) xs))) ≡ all
faults_more told after flaw reading at to xs p old new all e h g f k n inv =
    let span : Span = record { from = at; to = to } in
    let P : Option Kind → Type 0 = λ w. faults_behind told reading at xs ≡ new_faults told w span ++ faults_behind (told_behind told w) reading to (drop (length p) xs) in
    let step = subst P (sym f) (faults_step told reading at to xs p e h g) in
    let split = ap faults_as_items step ∙ as_items_append (new_faults told flaw span) (faults_behind (told_behind told flaw) reading to (drop (length p) xs)) in
    rw (take_rest xs (length p), k, n, append_assoc) (ap (λ (ys : List Item). old ++ ys) (sym split) ∙ inv)

-- nothing is left
pub faults_whole : (told : Told) (reading : Reading) (at : ℕ) (rest : List ℕ) (new all : List Item) → (length rest == 0) ≡ true →
    new ++ faults_as_items (faults_behind told reading at rest) ≡ all → new ≡ all
unfolding faults_behind once cut_by
faults_whole told reading at [] new all e g = sym (append-nil new) ∙ g
faults_whole told reading at (b ∷ rest) new all e g = absurd (let h : suc (length rest) ≡ 0 = (Decides-eqb (suc (length rest)) 0).0 e in omega arith)

pub faults_begin : (reading : Reading) (at : ℕ) (bytes : List ℕ) → faults_behind (record { bad_char = false; bad_text = false }) reading at bytes ≡ character_faults reading at bytes
unfolding faults_behind character_faults
faults_begin reading at bytes = refl
