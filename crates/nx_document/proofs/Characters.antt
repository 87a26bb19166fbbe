-- No fault of characters and references exactly where a token's bytes are legal.
use Rattle.std.proofs.Common.{◌≡◌, ℕ, zero, suc, ◌+◌, ◌-◌, Bool, false, Option, Some, None, List, [], ◌∷◌, ◌++◌, refl, ap, ◌∙◌}
use Rattle.std.specs.Prelude.{◌||◌}
use Rattle.std.specs.List.{AllByRecursion, flat_map}
use Rattle.nx_base.specs.declared.fault.Fault.{Fault}
use Rattle.nx_base.specs.declared.fault.Kind.{Kind}
use Rattle.nx_base.specs.declared.fault.Span.{Span}
use Rattle.nx_events.specs.Faults.{bare_faults}
use Rattle.nx_events.specs.Strings.{Piece, cut_by, pieces, piece_len}
use Rattle.nx_events.specs.CharacterFaults.{once, is_bad_char, is_bad_text, piece_flaw, piece_span, piece_faults, character_faults}
use Rattle.nx_events.specs.declared.reading.Reading.{Reading}
use Rattle.nx_document.specs.Constraints.{IsLegal}

-- the same pieces elsewhere
pub elsewhere : (P : List ℕ → Type 0) (len : List ℕ → ℕ) (n at other : ℕ) (bytes : List ℕ) →
    AllByRecursion (λ (piece : Piece). P piece.bytes) (cut_by len n at bytes) → AllByRecursion (λ (piece : Piece). P piece.bytes) (cut_by len n other bytes)
unfolding cut_by
elsewhere P len n at other [] h = tt
elsewhere P len (suc n) at other (b ∷ bytes) h = elsewhere P len n (at + 1) (other + 1) bytes h
elsewhere P len zero at other (b ∷ bytes) h = (h.0, elsewhere P len (len (b ∷ bytes) - 1) (at + 1) (other + 1) bytes h.1)

once_nothing : (such : Kind → Bool) (fs : List Fault) → once false such fs ≡ [] → fs ≡ []
unfolding once
once_nothing such [] e = refl
once_nothing such (f ∷ fs) e = let bad : f ∷ once (false || such f.kind) such fs ≡ [] = e in cc

once_of_nothing : (such : Kind → Bool) → once false such [] ≡ []
unfolding once
once_of_nothing such = refl

flaw_none : (flaw : Option Kind) (span : Span) (fs : List Fault) → bare_faults flaw span ++ fs ≡ [] → flaw ≡ None
flaw_none None span fs e = refl
flaw_none (Some kind) span fs e = let bad : record { span = span; kind = kind; detail = [] } ∷ fs ≡ [] = e in absurd (cc)

flaw_rest : (flaw : Option Kind) (span : Span) (fs : List Fault) → bare_faults flaw span ++ fs ≡ [] → fs ≡ []
flaw_rest None span fs e = e
flaw_rest (Some kind) span fs e = let bad : record { span = span; kind = kind; detail = [] } ∷ fs ≡ [] = e in absurd (cc)

abbrev pub NoFlaw : Reading → Piece → Type 0
NoFlaw reading piece = piece_flaw reading piece.bytes ≡ None

pub pieces_legal : (reading : Reading) (ps : List Piece) → flat_map (piece_faults reading) ps ≡ [] → AllByRecursion (NoFlaw reading) ps
pieces_legal reading [] e = tt
pieces_legal reading (p ∷ ps) e = (
  flaw_none (piece_flaw reading p.bytes) (piece_span p) (flat_map (piece_faults reading) ps) e,
  pieces_legal reading ps (flaw_rest (piece_flaw reading p.bytes) (piece_span p) (flat_map (piece_faults reading) ps) e),
)

pub pieces_faultless : (reading : Reading) (ps : List Piece) → AllByRecursion (NoFlaw reading) ps → flat_map (piece_faults reading) ps ≡ []
pieces_faultless reading [] h = refl
pieces_faultless reading (p ∷ ps) h =
    ap (λ flaw. bare_faults flaw (piece_span p) ++ flat_map (piece_faults reading) ps) h.0 ∙ pieces_faultless reading ps h.1

pub is_legal : (reading : Reading) (at : ℕ) (bytes : List ℕ) → character_faults reading at bytes ≡ [] → IsLegal reading bytes
unfolding character_faults
is_legal reading at bytes e =
    elsewhere (λ bs. piece_flaw reading bs ≡ None) (piece_len reading) 0 at 0 bytes
    (pieces_legal reading (pieces reading at bytes)
    (once_nothing is_bad_text (flat_map (piece_faults reading) (pieces reading at bytes)) (once_nothing is_bad_char _ e)))

pub legal_faultless : (reading : Reading) (at : ℕ) (bytes : List ℕ) → IsLegal reading bytes → character_faults reading at bytes ≡ []
unfolding character_faults
legal_faultless reading at bytes h =
    ap (λ fs. once false is_bad_char (once false is_bad_text fs))
    (pieces_faultless reading (pieces reading at bytes) (elsewhere (λ bs. piece_flaw reading bs ≡ None) (piece_len reading) 0 0 at bytes h))
    ∙ ap (once false is_bad_char) (once_of_nothing is_bad_text) ∙ once_of_nothing is_bad_char
