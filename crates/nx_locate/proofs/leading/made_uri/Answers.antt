use Rattle.std.proofs.Common.{sym, subst, ap, ◌∙◌, IsUtf8, ℕ, List, Some, None, Err}
use Rattle.nx_host.specs.Uri.{Joins, IsBadUri}
use Rattle.nx_locate.specs.Leading.{not_fitting, other_number, not_made}
use Rattle.nx_locate.specs.Patterns.{stars, made_text}
use Rattle.nx_locate.proofs.Making.{made_is_text, runs_are, made_are}
use Rattle.nx_locate.proofs.leading.made_uri.Goals as goal

pub returns-in_default : goal.returns-in_default
returns-in_default c files =
    not_fitting (runs_are c.as_slice-folder.result.now c.args.base.now c.as_bytes-place.result.now c.args.document.now
    c.as_slice-pattern.result.now c.args.from.now c.in_ok-found.found None c.as_slice-folder.ensures c.as_bytes-place.ensures.value
    c.as_slice-pattern.ensures c.in_default.is c.in_ok-found.ensures)

pub returns-then-count-len : goal.returns-then-count-len
returns-then-count-len c files =
    let runs : List (List ℕ) = c.in-Some.runs in
    other_number {runs = runs} (runs_are c.as_slice-folder.result.now c.args.base.now c.as_bytes-place.result.now c.args.document.now
    c.as_slice-pattern.result.now c.args.from.now c.in_ok-found.found (Some runs) c.as_slice-folder.ensures c.as_bytes-place.ensures.value
    c.as_slice-pattern.ensures c.in-Some.is c.in_ok-found.ensures)
    (λ e. c.if-count-len.true (c.stars-count.ensures ∙ ap stars c.as_slice-target.ensures ∙ e ∙ sym c.len-len.ensures))

pub text_of-text-requires : goal.text_of-text-requires
text_of-text-requires c =
    let runs : List (List ℕ) = c.in-Some.runs in
    let fits = runs_are c.as_slice-folder.result.now c.args.base.now c.as_bytes-place.result.now c.args.document.now
    c.as_slice-pattern.result.now c.args.from.now c.in_ok-found.found (Some runs) c.as_slice-folder.ensures c.as_bytes-place.ensures.value
    c.as_slice-pattern.ensures c.in-Some.is c.in_ok-found.ensures in
    let is = made_are c.as_slice-folder.result.now c.args.base.now c.as_bytes-place.result.now c.args.document.now
    c.as_slice-target.result.now c.args.to.now runs c.in_ok-made.made c.as_slice-folder.ensures c.as_bytes-place.ensures.value
    c.as_slice-target.ensures c.in_ok-made.ensures in
    subst (λ xs. IsUtf8 xs) (sym is) (made_is_text c.args.base.now c.args.document.now c.args.from.now c.args.to.now runs fits
    c.requires.document c.requires.base c.requires.to)

pub returns-in-Ok : goal.returns-in-Ok
returns-in-Ok c =
    let runs : List (List ℕ) = c.in-Some.runs in
    let uri : List ℕ = c.in-Ok.uri in
    let fits = runs_are c.as_slice-folder.result.now c.args.base.now c.as_bytes-place.result.now c.args.document.now
    c.as_slice-pattern.result.now c.args.from.now c.in_ok-found.found (Some runs) c.as_slice-folder.ensures c.as_bytes-place.ensures.value
    c.as_slice-pattern.ensures c.in-Some.is c.in_ok-found.ensures in
    let is = made_are c.as_slice-folder.result.now c.args.base.now c.as_bytes-place.result.now c.args.document.now
    c.as_slice-target.result.now c.args.to.now runs c.in_ok-made.made c.as_slice-folder.ensures c.as_bytes-place.ensures.value
    c.as_slice-target.ensures c.in_ok-made.ensures in (
      record {
        runs = runs;
        fits = fits;
        as_many = ap stars (sym c.as_slice-target.ensures) ∙ sym c.stars-count.ensures ∙ c.if-count-len.false ∙ c.len-len.ensures;
        joined =
            subst (λ b. Joins b (made_text c.args.base.now c.args.document.now c.args.to.now runs) uri) c.text_of-start.ensures
            (subst (λ t. Joins c.text_of-start.result.now t uri) (c.text_of-text.ensures ∙ is) c.in-Ok.ensures.joined);
      },
      c.in-Ok.ensures.utf8,
    )

pub returns-in-Err-Bad : goal.returns-in-Err-Bad
returns-in-Err-Bad c files =
    let runs : List (List ℕ) = c.in-Some.runs in
    let fits = runs_are c.as_slice-folder.result.now c.args.base.now c.as_bytes-place.result.now c.args.document.now
    c.as_slice-pattern.result.now c.args.from.now c.in_ok-found.found (Some runs) c.as_slice-folder.ensures c.as_bytes-place.ensures.value
    c.as_slice-pattern.ensures c.in-Some.is c.in_ok-found.ensures in
    let is = made_are c.as_slice-folder.result.now c.args.base.now c.as_bytes-place.result.now c.args.document.now
    c.as_slice-target.result.now c.args.to.now runs c.in_ok-made.made c.as_slice-folder.ensures c.as_bytes-place.ensures.value
    c.as_slice-target.ensures c.in_ok-made.ensures in
    not_made {runs = runs} fits
    (ap stars (sym c.as_slice-target.ensures) ∙ sym c.stars-count.ensures ∙ c.if-count-len.false ∙ c.len-len.ensures)
    (subst (λ b. IsBadUri b (made_text c.args.base.now c.args.document.now c.args.to.now runs)) c.text_of-start.ensures
    (subst (λ t. IsBadUri c.text_of-start.result.now t) (c.text_of-text.ensures ∙ is) (c.in-Err-Bad.ensures.bad (ap Err c.in-Err-Bad.field-0-is))))
