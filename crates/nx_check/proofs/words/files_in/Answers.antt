use Rattle.std.proofs.Common.{ap, map, codes, ◌≡◌, [], Some, None, ◌∙◌, sym, refl}
use Rattle.std.specs.Prelude.{unwrap_or}
use Rattle.clap.specs.Matches.{found_of}
use Rattle.clap.proofs.WalkLemmas.{raw_values-rows}
use Rattle.nx_check.proofs.words.files_in.Goals as goal

pub returns-in_ok-from_slice-in-Some : goal.returns-in_ok-from_slice-in-Some
returns-in_ok-from_slice-in-Some c =
    ap (map (λ file. file.now)) c.in_ok-from_slice-in-Some.ensures.items
    ∙ ap (λ found. unwrap_or found []) (c.in-Some.ensures ∙ raw_values-rows (found_of c.args.matches.now) (codes "file"))

pub returns-in-None : goal.returns-in-None
returns-in-None c =
    ap (map (λ file. file.now)) c.new.ensures.items
    ∙ ap (λ found. unwrap_or found []) (c.in-None.ensures ∙ raw_values-rows (found_of c.args.matches.now) (codes "file"))
