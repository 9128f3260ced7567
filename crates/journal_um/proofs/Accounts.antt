-- The account tells what the history of all lives says.
use Rattle.std.proofs.Common.{◌≡◌, ◌<◌, ℕ, ◌-◌, Bool, false, ◌||◌, List, [], ◌∷◌, ◌++◌, length}
use Rattle.std.proofs.Common.{Option, None, refl, ap, sym, ◌∙◌, arith}
use Rattle.journal_um.specs.declared.pieces.JoinedSdu.{JoinedSdu}
use Rattle.journal_um.specs.declared.pieces.Piece.{Piece}
use Rattle.journal_um.specs.UmEvents.{UmLifeEvent, InLife, LifeEnded, running}
use Rattle.journal_um.specs.UmNumbers.{top_in, base_in, pdu_of, is_accepted, edge_in}
use Rattle.journal_um.specs.UmSdus.{row_below, sdus_in, handed_before}
use Rattle.journal_um.specs.UmLosses.{far_came, leaves_out, was_long}
use Rattle.journal_um.specs.UmJoiner.{UmJoiner, with_pdus, nothing_joined}
use Rattle.journal_um.specs.UmFlow.{UmFlow, ended, flow_of}
use Rattle.journal_um.specs.Laws.{IsUmAccount, UmAccountsAreTrue}
use Rattle.journal_um.proofs.WindowSteps.{take_whole}
use Rattle.journal_um.proofs.Either.{or-false, or-swap}
use Rattle.journal_um.proofs.Accepting.{edge_least, least_one}
use Rattle.journal_um.proofs.Keeping.{below, joined-on, rests-least}
use Rattle.journal_um.proofs.Searching.{below-ready}
use Rattle.journal_um.proofs.Counting.{below-long, below-many}
use Rattle.journal_um.proofs.Steps.{Stands, step}

-- with what joining began as the life did
record Stood (width many : ℕ) (es : List UmLifeEvent) (f : UmFlow) : Type 0 where
  outset : UmJoiner
  far : Bool
  part_is : outset.part ≡ None
  next_is : outset.next ≡ 0
  many_is : outset.many ≡ many
  ready_is : outset.ready ≡ handed_before width es
  long_is : (far || outset.long) ≡ was_long width many es
  stands : Stands width (running es) outset far f

-- losses were long where they were before, or a number or an SDU tells so in this life
long-told : (width many n : ℕ) (es : List UmLifeEvent) (f : UmFlow) (j : UmJoiner) (s : Stood width many es f)
    → j ≡ below (pdu_of width (running es)) n s.outset
    → (f.far || j.long) ≡ (was_long width many es || (far_came width (running es)
    || leaves_out many 0 (sdus_in (row_below (pdu_of width (running es)) n))))
long-told width many n es f j s is =
    let p : ℕ → Option (List Piece) = pdu_of width (running es) in
    let sdus : List JoinedSdu = sdus_in (row_below (pdu_of width (running es)) n) in
    let long : j.long ≡ (s.outset.long || leaves_out many 0 (sdus_in (row_below (pdu_of width (running es)) n))) =
    ap (λ (k : UmJoiner). k.long) is
    ∙ below-long many s.outset p n sdus s.many_is s.next_is (below-ready p n s.outset s.part_is) in
    ap (λ (b : Bool). b || j.long) s.stands.far
    ∙ ap (λ (b : Bool). (s.far || far_came width (running es)) || b) long
    ∙ or-swap s.far (far_came width (running es)) s.outset.long (leaves_out many 0 sdus)
    ∙ ap (λ (b : Bool). b || (far_came width (running es) || leaves_out many 0 sdus)) s.long_is

ready-told : (width many n : ℕ) (es : List UmLifeEvent) (f : UmFlow) (j : UmJoiner) (s : Stood width many es f)
    → j ≡ below (pdu_of width (running es)) n s.outset
    → j.ready ≡ handed_before width es ++ sdus_in (row_below (pdu_of width (running es)) n)
ready-told width many n es f j s is =
    ap (λ (k : UmJoiner). k.ready) is ∙ below-ready (pdu_of width (running es)) n s.outset s.part_is
    ∙ ap (λ (l : List JoinedSdu). l ++ sdus_in (row_below (pdu_of width (running es)) n)) s.ready_is

-- a life ends
stood-ended : (width many : ℕ) (es : List UmLifeEvent) (f : UmFlow) → Stood width many es f
    → Stood width many (LifeEnded ∷ es) (ended f)
stood-ended width many es f s =
    let h = s.stands.rests.holds in
    let all : with_pdus f.window.pdus f.joiner
    ≡ below (pdu_of width (running es)) (top_in width (running es)) s.outset =
    ap (λ (l : List (Option (List Piece))). with_pdus l f.joiner) (sym (take_whole f.window.pdus))
    ∙ joined-on (length f.window.pdus) (pdu_of width (running es)) f.window.edge f.window.pdus f.joiner s.outset
    (omega arith) h.are h.joined
    ∙ ap (λ (n : ℕ). below (pdu_of width (running es)) n s.outset) h.top_is in
    record {
      outset = (ended f).joiner;
      far = f.far;
      part_is = refl;
      next_is = refl;
      many_is = ap (λ (j : UmJoiner). j.many) all
          ∙ below-many (pdu_of width (running es)) (top_in width (running es)) s.outset many s.many_is s.next_is;
      ready_is = ready-told width many (top_in width (running es)) es f (with_pdus f.window.pdus f.joiner) s all;
      long_is = long-told width many (top_in width (running es)) es f (with_pdus f.window.pdus f.joiner) s all;
      stands = record {
        wide = s.stands.wide;
        rests = record {
          holds = record {
            from = omega arith;
            top_is = omega arith;
            between = λ n a b. absurd (omega (arith, b));
            are = λ k. refl;
            joined = refl;
          };
          here = refl;
        };
        mark = refl;
        far = sym (or-false f.far);
      };
    }

stood : (width many : ℕ) (es : List UmLifeEvent) → 0 < width → Stood width many es (flow_of width many es)
stood width many [] some = record {
  outset = nothing_joined many;
  far = false;
  part_is = refl;
  next_is = refl;
  many_is = refl;
  ready_is = refl;
  long_is = refl;
  stands = record {
    wide = refl;
    rests = record {
      holds = record {
        from = omega arith;
        top_is = omega arith;
        between = λ n a b. absurd (omega (arith, b));
        are = λ k. refl;
        joined = refl;
      };
      here = refl;
    };
    mark = refl;
    far = refl;
  };
}
stood width many (InLife e ∷ es) some =
    let s = stood width many es some in
    record {
      outset = s.outset;
      far = s.far;
      part_is = s.part_is;
      next_is = s.next_is;
      many_is = s.many_is;
      ready_is = s.ready_is;
      long_is = s.long_is;
      stands = step width e (running es) s.outset s.far (flow_of width many es) some s.stands;
    }
stood width many (LifeEnded ∷ es) some =
    stood-ended width many es (flow_of width many es) (stood width many es some)

account : (width many : ℕ) (es : List UmLifeEvent) (f : UmFlow) → Stood width many es f
    → IsUmAccount width many es f
account width many es f s =
    let r = s.stands.rests in
    let h = r.holds in
    let from = h.from in
    let top = h.top_is in
    let least = rests-least (pdu_of width (running es)) (base_in width (running es)) (top_in width (running es))
    s.outset f.window f.joiner r in
    let edge : f.window.edge ≡ edge_in width (running es) =
    least_one (is_accepted width (running es)) (base_in width (running es)) f.window.edge
    (edge_in width (running es)) least (edge_least width (running es)) in
    let joined : f.joiner ≡ below (pdu_of width (running es)) (edge_in width (running es)) s.outset =
    h.joined ∙ ap (λ (n : ℕ). below (pdu_of width (running es)) n s.outset) edge in
    record {
      top = top;
      mark = s.stands.mark;
      edge = least;
      edge_is = edge;
      kept = λ n le. h.are (n - f.window.edge) ∙ ap (pdu_of width (running es)) (omega (arith, le));
      bounded = omega (arith, from, top);
      handed = ready-told width many (edge_in width (running es)) es f f.joiner s joined;
      long = long-told width many (edge_in width (running es)) es f f.joiner s joined;
    }

pub um_accounts_are_true : UmAccountsAreTrue
um_accounts_are_true width many es some = account width many es (flow_of width many es) (stood width many es some)
