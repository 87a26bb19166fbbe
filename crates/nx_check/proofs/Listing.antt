-- Lines of faults, one after another.
use Rattle.std.proofs.Common.{◌≡◌, ℕ, zero, suc, ◌+◌, ◌<◌, List, [], ◌∷◌, ◌++◌, length, take, Option, refl, sym, ap, ◌∙◌, subst, arith, append_assoc, get_or}
use Rattle.std.proofs.lemmas.List.{append-nil, length-take-le, take_more}
use Rattle.nx_base.specs.declared.fault.Fault.{Fault}
use Rattle.nx_lines.specs.Cursors.{IsAtPlace}
use Rattle.nx_lines.specs.declared.cursor.Cursor.{Cursor}
use Rattle.nx_position.specs.declared.position.Encoding.TheVariants.{Utf32}
use Rattle.nx_session.specs.Editor.{EditorState, FilesState, schema_of}
use Rattle.rng_core.specs.Patterns.{Language}
use Rattle.nx_check.specs.Reports.{AreLines, IsLine, AddsLine, AddsLines}

-- one more line comes behind the others
pub lines-push : (schema : Option Language) (text name : List ℕ) (number : ℕ) (faults : List Fault) (lines : List ℕ) (fault : Fault) (line : List ℕ) (at : ℕ) →
    AreLines schema text name number faults lines → at ≡ number + length faults → IsLine schema text name at fault line →
    AreLines schema text name number (faults ++ fault ∷ []) (lines ++ line)
lines-push schema text name number [] lines fault line at are is one =
    let P : ℕ → Type 0 = λ n. IsLine schema text name n fault line in
    let here : at ≡ number = omega (arith, is) in
    (line, [], subst P here one, refl, ap (λ x. x ++ line) are ∙ sym (append-nil line))
lines-push schema text name number (f ∷ fs) lines fault line at are is one =
    let rest = lines-push schema text name (suc number) fs are.1 fault line at are.3 (omega (arith, is)) one in
    (are.0, are.1 ++ line, are.2, rest, ap (λ x. x ++ line) are.4 ∙ append_assoc are.0 are.1 line)

-- the lines of the first faults were added, and all else is as it was
pub record IsListing (before now : EditorState) (files left : FilesState) (name : List ℕ) (faults : List Fault) (number : ℕ) (old new : List ℕ) (cursor : Cursor) : Type 0 where
  pub lines : List ℕ
  pub are_lines : AreLines (schema_of before) before.text name 0 (take number faults) lines
  pub added : new ≡ old ++ lines
  pub editor : now ≡ before
  pub stays : left ≡ files
  pub stands : IsAtPlace now.text cursor
  pub encoding : cursor.encoding ≡ Utf32

pub listing-begun : (editor : EditorState) (files : FilesState) (name : List ℕ) (faults : List Fault) (old : List ℕ) (cursor : Cursor) →
    IsAtPlace editor.text cursor → cursor.encoding ≡ Utf32 → IsListing editor editor files files name faults 0 old old cursor
listing-begun editor files name faults old cursor stands encoding = record {
  lines = [];
  are_lines = refl;
  added = sym (append-nil old);
  editor = refl;
  stays = refl;
  stands = stands;
  encoding = encoding;
}

pub listing-more : (before now next : EditorState) (files left last : FilesState) (name : List ℕ) (faults : List Fault) (number next-number : ℕ) (fault : Fault) (old new end : List ℕ) (cursor moved : Cursor) →
    IsListing before now files left name faults number old new cursor → number < length faults → fault ≡ get_or faults number fault → next-number ≡ number + 1 →
    AddsLine (schema_of now) now.text name number fault new end → next ≡ now → last ≡ left → IsAtPlace next.text moved → moved.encoding ≡ Utf32 →
    IsListing before next files last name faults next-number old end moved
listing-more before now next files left last name faults number next-number fault old new end cursor moved h lt is more line same stays stands encoding =
    let P : EditorState → Type 0 = λ e. IsLine (schema_of e) e.text name number fault line.0 in
    let counted : number ≡ 0 + length (take number faults) = omega (arith, length-take-le number faults (omega (arith, lt))) in
    record {
      lines = h.lines ++ line.0;
      are_lines =
          let Q : List Fault → Type 0 = λ fs. AreLines (schema_of before) before.text name 0 fs (h.lines ++ line.0) in
          let R : ℕ → Type 0 = λ n. Q (take n faults) in
          subst R (sym more) (subst Q (sym (take_more faults number fault lt ∙ ap (λ f. take number faults ++ f ∷ []) (sym is)))
          (lines-push (schema_of before) before.text name 0 (take number faults) h.lines fault line.0 number h.are_lines counted (subst P h.editor line.1)));
      added = line.2 ∙ ap (λ x. x ++ line.0) h.added ∙ append_assoc old h.lines line.0;
      editor = same ∙ h.editor;
      stays = stays ∙ h.stays;
      stands = stands;
      encoding = encoding;
    }
