-- The names that tests put in are QNames.
use Rattle.std.proofs.Common.{◌≡◌, ℕ, true, List, refl, sym, subst, codes}
use Rattle.std.specs.Prelude.{IfOk, Result, Ok, Err}
use Rattle.std.specs.Str.{IsUtf8}
use Rattle.std.proofs.lemmas.Bool.{and_from}
use Rattle.nx_events.specs.Names.{is_ncname, is_qname, prefix_of, local_of}
use Rattle.nx_events.specs.PlainNames.{is_plain_name}
use Rattle.nx_events.proofs.PlainNames.{plain_name, plain_parts}
use Rattle.nx_tags.specs.Answers.{IsQName}

letters : (name : List ℕ) → is_plain_name name ≡ true → is_qname name ≡ true
letters name h = (plain_parts name h).0

prefixed : is_qname (codes "p:q") ≡ true
unfolding is_qname prefix_of local_of
prefixed = and_from (is_ncname (codes "p")) (is_ncname (codes "q")) (plain_name (codes "p") refl) (plain_name (codes "q") refl)

named : {E : Type 0} (word : List ℕ) → is_qname word ≡ true → (result : Result (List ℕ) E) → IfOk result (λ bytes. bytes ≡ word) → IfOk result IsUtf8 → IfOk result IsQName
named word is (Err e) h u = tt
named word is (Ok bytes) h u = (u, subst (λ xs. is_qname xs ≡ true) (sym h) is)

pub named_q : {E : Type 0} (result : Result (List ℕ) E) → IfOk result (λ bytes. bytes ≡ codes "q") → IfOk result IsUtf8 → IfOk result IsQName
named_q = named (codes "q") (letters (codes "q") refl)

pub named_x : {E : Type 0} (result : Result (List ℕ) E) → IfOk result (λ bytes. bytes ≡ codes "x") → IfOk result IsUtf8 → IfOk result IsQName
named_x = named (codes "x") (letters (codes "x") refl)

pub named_long : {E : Type 0} (result : Result (List ℕ) E) → IfOk result (λ bytes. bytes ≡ codes "long") → IfOk result IsUtf8 → IfOk result IsQName
named_long = named (codes "long") (letters (codes "long") refl)

pub named_prefixed : {E : Type 0} (result : Result (List ℕ) E) → IfOk result (λ bytes. bytes ≡ codes "p:q") → IfOk result IsUtf8 → IfOk result IsQName
named_prefixed = named (codes "p:q") prefixed
