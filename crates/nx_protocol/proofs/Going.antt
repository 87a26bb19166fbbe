-- How far the messages that bytes begin with are served.
use Rattle.std.proofs.Common.{◌≡◌, ℕ, ◌+◌, ◌≤◌, List, [], ◌∷◌, ◌++◌, length, take, drop, refl, sym, subst, arith}
use Rattle.std.proofs.lemmas.List.{drop-drop, length-drop}
use Rattle.nx_protocol.proofs.Framed as framed
use Rattle.nx_protocol.proofs.Served as served
use Rattle.nx_protocol.specs.Runs.{AreFrames, bodies_of, ServesAll, ServesBytes, ServesNext, Stops, Turn}
use Rattle.nx_protocol.specs.Serving.{ServesContent, State}
use Rattle.nx_protocol.specs.declared.bytes.Stop.{Stop}
use Rattle.nx_wire.specs.Frames.{IsFrame}

-- so many bytes are served
pub record Going (old : State) (bytes sent : List ℕ) (used : ℕ) (now : State) (out : List ℕ) : Type 0 where
  pub turns : List Turn
  pub frames : AreFrames bytes (bodies_of turns) (drop used bytes)
  pub serves : ServesAll old turns now sent out
  pub within : used ≤ length bytes

pub begun : (old : State) (bytes sent : List ℕ) → Going old bytes sent 0 old sent
begun old bytes sent = record { turns = []; frames = refl; serves = (refl, refl); within = omega arith }

-- the next message is served, too
pub one_more : (old : State) (bytes sent : List ℕ) (used : ℕ) (now : State) (out : List ℕ) (len : ℕ) (next : State) (more : List ℕ) →
    Going old bytes sent used now out → ServesNext now (drop used bytes) len next out more → Going old bytes sent (used + len) next more
one_more old bytes sent used now out len next more g s =
    let turn : Turn = record { talk = now.talk; body = s.body } in
    let this : IsFrame (drop used bytes) s.body (drop (used + len) bytes) = subst (IsFrame (drop used bytes) s.body) (drop-drop len used bytes) s.frame in
    let dropped = length-drop used bytes in
    let fits = g.within in let within = s.within in
    record {
      turns = g.turns ++ turn ∷ [];
      frames = subst (λ bodies. AreFrames bytes bodies (drop (used + len) bytes)) (sym (served.bodies_more g.turns turn))
          (framed.one_more bytes (bodies_of g.turns) (drop used bytes) s.body (drop (used + len) bytes) g.frames this);
      serves = served.one_more old now next g.turns turn sent out more g.serves refl s.serves;
      within = omega (arith, within, dropped, fits);
    }

-- a message whose content is a part of the bytes
pub next_served : (bytes : List ℕ) (at len : ℕ) (body : List ℕ) (old new : State) (sent out : List ℕ) → at + len ≤ length bytes →
    IsFrame bytes (take len (drop at bytes)) (drop len (drop at bytes)) → body ≡ take len (drop at bytes) → ServesContent old body new sent out →
    ServesNext old bytes (at + len) new sent out
next_served bytes at len body old new sent out within frame is serves =
    let some = framed.head_is_some bytes at len within frame in
    record {
      body = body;
      frame = subst (λ xs. IsFrame bytes xs (drop (at + len) bytes)) (sym is)
          (subst (IsFrame bytes (take len (drop at bytes))) (drop-drop len at bytes) frame);
      serves = serves;
      some = omega (arith, some);
      within = within;
    }

-- no more are
pub stopped : (old : State) (bytes sent : List ℕ) (used : ℕ) (mid : State) (out : List ℕ) (stop : Stop) (new : State) → Going old bytes sent used mid out →
    Stops mid new (drop used bytes) stop → ServesBytes old bytes used stop new sent out
stopped old bytes sent used mid out stop new g why =
    record { turns = g.turns; frames = g.frames; mid = mid; serves = g.serves; stops = why }
