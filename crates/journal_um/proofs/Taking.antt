-- SDUs may be taken at any time, and what goes up only grows.
use Rattle.std.proofs.Common.{◌≡◌, ◌<◌, ℕ, ◌-◌, Bool, true, false, if◌then◌else◌, List, [], ◌∷◌, ◌++◌, length}
use Rattle.std.proofs.Common.{take, drop, Option, Some, None, refl, ap, sym, ◌∙◌, append_assoc, arith}
use Rattle.std.proofs.lemmas.List.{append-nil}
use Rattle.journal_um.specs.declared.pieces.JoinedSdu.{JoinedSdu}
use Rattle.journal_um.specs.declared.pieces.Piece.{Piece}
use Rattle.journal_um.specs.UmEvents.{PduArrived, ReorderStarted, ReorderExpired}
use Rattle.journal_um.specs.UmEvents.{UmLifeEvent, InLife, LifeEnded}
use Rattle.journal_um.specs.UmWindow.{is_dropped, leading, fallen}
use Rattle.journal_um.specs.UmJoiner.{UmJoiner, opened, with_part, closed, with_piece, with_pieces, with_pdu}
use Rattle.journal_um.specs.UmJoiner.{with_pdus, one_taken, life_joined}
use Rattle.journal_um.specs.UmFlow.{UmFlow, pass, advanced, put, kept, landed, numbered, read_in, ended}
use Rattle.journal_um.specs.UmFlow.{flow_with, flow_of, sdu_taken}
use Rattle.journal_um.specs.Laws.{TakingIsFree, HasMore, HandedGrows}
use Rattle.journal_um.proofs.Accounts.{um_accounts_are_true}

-- ---- what goes up only grows

no-more : (xs : List JoinedSdu) → HasMore xs xs
no-more xs = record { more = []; is = sym (append-nil xs) }

then-more : (xs ys zs : List JoinedSdu) → HasMore xs ys → HasMore ys zs → HasMore xs zs
then-more xs ys zs g h = record {
  more = g.more ++ h.more;
  is = h.is ∙ ap (λ (l : List JoinedSdu). l ++ h.more) g.is ∙ append_assoc xs g.more h.more;
}

closed-more : (place : ℕ) (part : Option (List ℕ)) (j : UmJoiner) → HasMore j.ready (closed place part j).ready
closed-more place None j = no-more j.ready
closed-more place (Some octets) j = record { more = record { place = place; octets = octets } ∷ []; is = refl }

piece-more : (ends : Bool) (place : ℕ) (part : Option (List ℕ)) (j : UmJoiner)
    → HasMore j.ready (if ends then closed place part j else with_part part j).ready
piece-more true place part j = closed-more place part j
piece-more false place part j = no-more j.ready

pieces-more : (ps : List Piece) (j : UmJoiner) → HasMore j.ready (with_pieces ps j).ready
pieces-more [] j = no-more j.ready
pieces-more (p ∷ ps) j =
    then-more j.ready (with_piece p j).ready (with_pieces ps (with_piece p j)).ready
    (piece-more p.ends p.place (opened p j.part) j) (pieces-more ps (with_piece p j))

pdu-more : (o : Option (List Piece)) (j : UmJoiner) → HasMore j.ready (with_pdu o j).ready
pdu-more None j = no-more j.ready
pdu-more (Some ps) j = pieces-more ps j

pdus-more : (os : List (Option (List Piece))) (j : UmJoiner) → HasMore j.ready (with_pdus os j).ready
pdus-more [] j = no-more j.ready
pdus-more (o ∷ os) j =
    then-more j.ready (with_pdu o j).ready (with_pdus os (with_pdu o j)).ready (pdu-more o j)
    (pdus-more os (with_pdu o j))

pass-more : (n : ℕ) (f : UmFlow) → HasMore f.joiner.ready (pass n f).joiner.ready
pass-more n f = pdus-more (take n f.window.pdus) f.joiner

landed-more : (o : Option ℕ) (pieces : List Piece) (f : UmFlow)
    → HasMore f.joiner.ready (landed o pieces f).joiner.ready
landed-more None pieces f = no-more f.joiner.ready
landed-more (Some n) pieces f = by (is_dropped n f.window)
  where
    by : (b : Bool) → HasMore f.joiner.ready (if b then f else kept (n - f.window.edge) pieces f).joiner.ready
    by true = no-more f.joiner.ready
    by false =
        then-more f.joiner.ready (put (n - f.window.edge) pieces f).joiner.ready
        (kept (n - f.window.edge) pieces f).joiner.ready (pass-more (fallen f.window (n - f.window.edge)) f)
        (pass-more (leading (put (n - f.window.edge) pieces f).window.pdus) (put (n - f.window.edge) pieces f))

event-more : (e : UmLifeEvent) (f : UmFlow) → HasMore f.joiner.ready (flow_with e f).joiner.ready
event-more (InLife (PduArrived number pieces)) f = landed-more (read_in number f) pieces (numbered number f)
event-more (InLife ReorderStarted) f = no-more f.joiner.ready
event-more (InLife ReorderExpired) f =
    then-more f.joiner.ready (pass (f.mark - f.window.edge) f).joiner.ready
    (advanced (pass (f.mark - f.window.edge) f)).joiner.ready (pass-more (f.mark - f.window.edge) f)
    (pass-more (leading (pass (f.mark - f.window.edge) f).window.pdus) (pass (f.mark - f.window.edge) f))
event-more LifeEnded f = pdus-more f.window.pdus f.joiner

flow-more : (width many : ℕ) (es later : List UmLifeEvent)
    → HasMore (flow_of width many es).joiner.ready (flow_of width many (later ++ es)).joiner.ready
flow-more width many es [] = no-more (flow_of width many es).joiner.ready
flow-more width many es (e ∷ later) =
    then-more (flow_of width many es).joiner.ready (flow_of width many (later ++ es)).joiner.ready
    (flow_of width many (e ∷ later ++ es)).joiner.ready (flow-more width many es later)
    (event-more e (flow_of width many (later ++ es)))

pub handed_grows : HandedGrows
handed_grows width es later some =
    let m = flow-more width 0 es later in
    let now = (um_accounts_are_true width 0 es some).handed in
    let after = (um_accounts_are_true width 0 (later ++ es) some).handed in
    record { more = m.more; is = sym after ∙ m.is ∙ ap (λ (l : List JoinedSdu). l ++ m.more) now }

-- ---- taking one first

-- it comes to the same, and one is still there
record Alike (one other : UmJoiner) : Type 0 where
  there : 0 < length other.ready
  same : one ≡ one_taken other

drop-push : (xs : List JoinedSdu) (x : JoinedSdu) → 0 < length xs → drop 1 xs ++ x ∷ [] ≡ drop 1 (xs ++ x ∷ [])
drop-push [] x some = absurd (omega (arith, some))
drop-push (y ∷ ys) x some = refl

alike-closed : (place : ℕ) (part : Option (List ℕ)) (j : UmJoiner) → 0 < length j.ready
    → Alike (closed place part (one_taken j)) (closed place part j)
alike-closed place None j some = record { there = some; same = refl }
alike-closed place (Some octets) j some =
    record {
      there = omega (arith, length-ready (record { place = place; octets = octets }));
      same = ap (λ (l : List JoinedSdu). record (closed place (Some octets) j) { ready = l })
          (drop-push j.ready (record { place = place; octets = octets }) some);
    }
  where
    length-ready : (s : JoinedSdu) → 0 < length (j.ready ++ s ∷ [])
    length-ready s = omega (arith, pushed j.ready s)
      where
        pushed : (xs : List JoinedSdu) (x : JoinedSdu) → 0 < length (xs ++ x ∷ [])
        pushed [] x = omega arith
        pushed (y ∷ ys) x = omega arith

alike-ended : (ends : Bool) (place : ℕ) (part : Option (List ℕ)) (j : UmJoiner) → 0 < length j.ready
    → Alike (if ends then closed place part (one_taken j) else with_part part (one_taken j))
    (if ends then closed place part j else with_part part j)
alike-ended true place part j some = alike-closed place part j some
alike-ended false place part j some = record { there = some; same = refl }

alike-pieces : (ps : List Piece) (j : UmJoiner) → 0 < length j.ready
    → Alike (with_pieces ps (one_taken j)) (with_pieces ps j)
alike-pieces [] j some = record { there = some; same = refl }
alike-pieces (p ∷ ps) j some =
    let a = alike-ended p.ends p.place (opened p j.part) j some in
    let b = alike-pieces ps (with_piece p j) a.there in
    record { there = b.there; same = ap (with_pieces ps) a.same ∙ b.same }

alike-pdu : (o : Option (List Piece)) (j : UmJoiner) → 0 < length j.ready
    → Alike (with_pdu o (one_taken j)) (with_pdu o j)
alike-pdu None j some = record { there = some; same = refl }
alike-pdu (Some ps) j some = alike-pieces ps j some

alike-pdus : (os : List (Option (List Piece))) (j : UmJoiner) → 0 < length j.ready
    → Alike (with_pdus os (one_taken j)) (with_pdus os j)
alike-pdus [] j some = record { there = some; same = refl }
alike-pdus (o ∷ os) j some =
    let a = alike-pdu o j some in
    let b = alike-pdus os (with_pdu o j) a.there in
    record { there = b.there; same = ap (with_pdus os) a.same ∙ b.same }

-- the same of flows
record Same (one other : UmFlow) : Type 0 where
  there : 0 < length other.joiner.ready
  same : one ≡ sdu_taken other

same-pass : (n : ℕ) (f : UmFlow) → 0 < length f.joiner.ready → Same (pass n (sdu_taken f)) (pass n f)
same-pass n f some =
    let a = alike-pdus (take n f.window.pdus) f.joiner some in
    record { there = a.there; same = ap (λ (j : UmJoiner). record (pass n f) { joiner = j }) a.same }

same-advanced : (f g : UmFlow) → Same f g → Same (advanced f) (advanced g)
same-advanced f g s =
    let a = same-pass (leading g.window.pdus) g s.there in
    record { there = a.there; same = ap advanced s.same ∙ a.same }

same-put : (at : ℕ) (pieces : List Piece) (f : UmFlow) → 0 < length f.joiner.ready
    → Same (put at pieces (sdu_taken f)) (put at pieces f)
same-put at pieces f some =
    let a = alike-pdus (take (fallen f.window at) f.window.pdus) f.joiner some in
    record { there = a.there; same = ap (λ (j : UmJoiner). record (put at pieces f) { joiner = j }) a.same }

same-kept : (at : ℕ) (pieces : List Piece) (f : UmFlow) → 0 < length f.joiner.ready
    → Same (kept at pieces (sdu_taken f)) (kept at pieces f)
same-kept at pieces f some =
    same-advanced (put at pieces (sdu_taken f)) (put at pieces f) (same-put at pieces f some)

same-landed : (o : Option ℕ) (pieces : List Piece) (f : UmFlow) → 0 < length f.joiner.ready
    → landed o pieces (sdu_taken f) ≡ sdu_taken (landed o pieces f)
same-landed None pieces f some = refl
same-landed (Some n) pieces f some = by (is_dropped n f.window)
  where
    by : (b : Bool) → (if b then sdu_taken f else kept (n - f.window.edge) pieces (sdu_taken f))
        ≡ sdu_taken (if b then f else kept (n - f.window.edge) pieces f)
    by true = refl
    by false = (same-kept (n - f.window.edge) pieces f some).same

pub taking_is_free : TakingIsFree
taking_is_free (InLife (PduArrived number pieces)) f some =
    same-landed (read_in number f) pieces (numbered number f) some
taking_is_free (InLife ReorderStarted) f some = refl
taking_is_free (InLife ReorderExpired) f some =
    (same-advanced (pass (f.mark - f.window.edge) (sdu_taken f)) (pass (f.mark - f.window.edge) f)
    (same-pass (f.mark - f.window.edge) f some)).same
taking_is_free LifeEnded f some =
    ap (λ (j : UmJoiner). record (ended f) { joiner = life_joined j }) (alike-pdus f.window.pdus f.joiner some).same
