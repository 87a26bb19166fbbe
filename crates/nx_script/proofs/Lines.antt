-- Lines of faults that are written in parts.
use Rattle.std.proofs.Common.{ℕ, ◌≡◌, true, false, List, [], ◌∷◌, ◌++◌, refl, take, drop, sym, ap, ◌∙◌, append_assoc}
use Rattle.std.proofs.lemmas.List.{take-append-drop}
use Rattle.std.proofs.lemmas.Grind.{flat_map-append}
use Rattle.nx_base.specs.declared.fault.Fault.{Fault}
use Rattle.nx_script.specs.Escapes.{printed, printed_text}
use Rattle.nx_script.specs.FaultLines.{fault_line, fault_lines, detail_text}

-- the lines of the first faults stand in front of those of the others
pub lines_parted : (text : List ℕ) (faults part rest : List Fault) (n : ℕ) → part ≡ take n faults → rest ≡ drop n faults →
    text ++ fault_lines faults ≡ (text ++ fault_lines part) ++ fault_lines rest
lines_parted text faults part rest n e f =
    ap (λ (some : List Fault). text ++ fault_lines some) (sym (take-append-drop n faults))
    ∙ ap (λ (some : List ℕ). text ++ some) (flat_map-append fault_line (take n faults) (drop n faults))
    ∙ sym (append_assoc text (fault_lines (take n faults)) (fault_lines (drop n faults)))
    ∙ ap (λ (some : List Fault). (text ++ fault_lines some) ++ fault_lines (drop n faults)) (sym e)
    ∙ ap (λ (some : List Fault). (text ++ fault_lines part) ++ fault_lines some) (sym f)

-- a detail prints as its two pieces do, behind a space
pub pieces_printed : (text front end detail : List ℕ) → front ++ end ≡ detail → (detail ≡ [] → false ≡ true) →
    ((text ++ (32 ∷ [])) ++ printed_text front) ++ printed_text end ≡ text ++ detail_text detail
pieces_printed text front end [] is some = let no : false ≡ true = some refl in cc
pieces_printed text front end (byte ∷ bytes) is some =
    append_assoc (text ++ (32 ∷ [])) (printed_text front) (printed_text end)
    ∙ append_assoc text (32 ∷ []) (printed_text front ++ printed_text end)
    ∙ ap (λ (more : List ℕ). text ++ (32 ∷ more)) (sym (flat_map-append printed front end) ∙ ap printed_text is)
