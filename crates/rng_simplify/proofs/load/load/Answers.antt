use Rattle.std.proofs.Common.{◌≡◌, ◌∙◌, ap, subst, sym, reverse, Ok, Err, IsUtf8}
use Rattle.std.proofs.lemmas.List.{reverse-reverse}
use Rattle.std.proofs.lemmas.Result.{err_from_is_err_and}
use Rattle.std.proofs.lemmas.Str.{IsUtf8-nil}
use Rattle.rng_simplify.specs.FileChains.{IsUnderWay, AreTextLinks}
use Rattle.rng_simplify.specs.LoadedFiles.{AllLoaded}
use Rattle.rng_simplify.proofs.Turns.{begins_from, opened_texts, answers_alike}
use Rattle.rng_simplify.proofs.load.load.Goals as goal

pub returns-in_err-open-clause-loads : goal.returns-in_err-open-clause-loads
returns-in_err-open-clause-loads g c =
    let f = g.F.Files in
    let p = err_from_is_err_and c.from_residual-in_err-open.result c.from_residual-in_err-open.ensures.1 in
    rw (p.1, p.2) (begins_from {A = Unit {0}} (f.told c.args.files.now) c.args.uri.now c.from_vec-first.result c.new-4.result
    (f.faults c.args.files.now) (f.faults c.open.new.files) c.new.result.items c.open.new.self.chain.items c.new-2.result.items
    c.open.new.self.loaded.items (Err c.in_err-open.field-0.0)
    (subst (λ u. IsUtf8 u) c.as_bytes.ensures.value c.as_bytes.ensures.utf8)
    (c.from_vec-first.ensures ∙ c.in_ok-from_slice.ensures.items ∙ c.as_bytes.ensures.value) c.new-4.ensures c.new.ensures.items
    c.new-2.ensures.items c.in_err-open.ensures.opened)

pub follow-requires-clause-texts : goal.follow-requires-clause-texts
follow-requires-clause-texts g c =
    let f = g.F.Files in
    opened_texts (f.told c.args.files.now) c.from_vec-first.result c.new-4.result (f.faults c.args.files.now) (f.faults c.open.new.files)
    c.new.result.items c.open.new.self.chain.items c.new-2.result.items c.open.new.self.loaded.items (Ok c.in_ok-open.field-0)
    (subst (λ ns. IsUtf8 ns) (sym c.new-4.ensures) IsUtf8-nil)
    (subst (λ u. IsUtf8 u) (sym (c.from_vec-first.ensures ∙ c.in_ok-from_slice.ensures.items)) c.as_bytes.ensures.utf8)
    (subst (λ links. AreTextLinks (reverse links)) (sym c.new.ensures.items) tt) c.in_ok-open.ensures.opened

pub returns-in_err-follow-clause-loads : goal.returns-in_err-follow-clause-loads
returns-in_err-follow-clause-loads g c =
    let f = g.F.Files in
    let p = err_from_is_err_and c.from_residual-in_err-follow.result c.from_residual-in_err-follow.ensures.1 in
    let under : IsUnderWay (f.told c.args.files.now) c.args.uri.now (reverse c.open.new.self.chain.items) c.open.new.self.loaded.items =
    begins_from (f.told c.args.files.now) c.args.uri.now c.from_vec-first.result c.new-4.result (f.faults c.args.files.now)
    (f.faults c.open.new.files) c.new.result.items c.open.new.self.chain.items c.new-2.result.items c.open.new.self.loaded.items
    (Ok c.in_ok-open.field-0)
    (subst (λ u. IsUtf8 u) c.as_bytes.ensures.value c.as_bytes.ensures.utf8)
    (c.from_vec-first.ensures ∙ c.in_ok-from_slice.ensures.items ∙ c.as_bytes.ensures.value) c.new-4.ensures c.new.ensures.items
    c.new-2.ensures.items c.in_ok-open.ensures.opened in
    let at_files : IsUnderWay (f.told c.open.new.files) c.args.uri.now (reverse c.open.new.self.chain.items) c.open.new.self.loaded.items =
    subst (λ told. IsUnderWay told c.args.uri.now (reverse c.open.new.self.chain.items) c.open.new.self.loaded.items)
    (sym c.in_ok-open.ensures.map) under in
    rw (p.1, p.2) (answers_alike (f.told c.open.new.files) (f.told c.args.files.now) c.args.uri.now (f.faults c.open.new.files)
    (f.faults c.args.files.now) (f.faults c.follow.new.files) c.in_err-follow.field-0.0 c.in_ok-open.ensures.map
    c.in_ok-open.ensures.opened.4 (c.in_err-follow.ensures.followed c.args.uri.now at_files))

pub returns-clause-loads : goal.returns-clause-loads
returns-clause-loads g c =
    let f = g.F.Files in
    let under : IsUnderWay (f.told c.args.files.now) c.args.uri.now (reverse c.open.new.self.chain.items) c.open.new.self.loaded.items =
    begins_from (f.told c.args.files.now) c.args.uri.now c.from_vec-first.result c.new-4.result (f.faults c.args.files.now)
    (f.faults c.open.new.files) c.new.result.items c.open.new.self.chain.items c.new-2.result.items c.open.new.self.loaded.items
    (Ok c.in_ok-open.field-0)
    (subst (λ u. IsUtf8 u) c.as_bytes.ensures.value c.as_bytes.ensures.utf8)
    (c.from_vec-first.ensures ∙ c.in_ok-from_slice.ensures.items ∙ c.as_bytes.ensures.value) c.new-4.ensures c.new.ensures.items
    c.new-2.ensures.items c.in_ok-open.ensures.opened in
    let at_files : IsUnderWay (f.told c.open.new.files) c.args.uri.now (reverse c.open.new.self.chain.items) c.open.new.self.loaded.items =
    subst (λ told. IsUnderWay told c.args.uri.now (reverse c.open.new.self.chain.items) c.open.new.self.loaded.items)
    (sym c.in_ok-open.ensures.map) under in
    let done = c.in_ok-follow.ensures.followed c.args.uri.now at_files in
    let back : reverse c.reverse.new.self.items ≡ c.follow.new.self.loaded.items =
    ap reverse c.reverse.ensures.items ∙ reverse-reverse c.follow.new.self.loaded.items in (
      subst (λ files. AllLoaded (f.told c.args.files.now) c.args.uri.now files) (sym back)
          (subst (λ told. AllLoaded told c.args.uri.now c.follow.new.self.loaded.items) c.in_ok-open.ensures.map done.0),
      done.1 ∙ c.in_ok-open.ensures.opened.4,
    )
