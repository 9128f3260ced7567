-- What is told of a new block is what it has.
use Rattle.std.proofs.Common.{◌≡◌, ◌≤◌, ℕ, ◌%◌, Bool, Option, Some, None, List, [], ◌∷◌, ◌++◌, length, map, refl, ap}
use Rattle.std.proofs.Common.{sym, subst, inl, inr, ◌∙◌}
use Rattle.std.specs.List.{filter}
use Rattle.std.proofs.Math.ListN.{length-set}
use Rattle.air_link.specs.Downlink.{block_at}
use Rattle.air_record.specs.declared.record.Record.TheVariants as records
use Rattle.bearer_types.specs.declared.event.Event.{Event}
use Rattle.bearer_types.specs.declared.event.Event.TheVariants as events
use Rattle.harq.specs.declared.sender.Order.{Order}
use Rattle.harq.specs.declared.sender.Order.TheVariants as orders
use Rattle.harq.specs.declared.sender.Visit.{Visit}
use Rattle.harq.specs.declared.sender.Visit.TheVariants.{New, Resend, Silent}
use Rattle.harq.specs.Sending.{Block, Sending, fresh as fresh_sender, process_at, resend_or, visit_answer}
use Rattle.harq.specs.Sending.{after_visit, after_feedback}
use Rattle.l2_node.specs.Building.{IsEnough, visit, visited, built, built_by, loaded, building}
use Rattle.l2_node.specs.End.{End, fresh, with_bearer, reset, with_visits}
use Rattle.bearer_types.specs.Sides.{sent_by}
use Rattle.l2_node.specs.Hearing.{expired}
use Rattle.l2_node.specs.Moving.{left_cell, joined}
use Rattle.l2_node.specs.Submitting.{submitted, discarding}
use Rattle.l2_node.specs.Writing.{new_block}
use Rattle.l2_types.specs.declared.side.Side.{Side}
use Rattle.mac_pdu.specs.Reading.{reading}
use Rattle.law_node.specs.Blocks.{report, all_sdus}
use Rattle.law_node.specs.Calls.{Turn, Call as EndCall, SetVisits, SetReports, Add, Submit, SetDiscard, Tick}
use Rattle.law_node.specs.Calls.{TickBuckets, Visits, Grants, Granted, Assigned, Pass, Receive, Expire, Move, AreGiven}
use Rattle.law_node.specs.Calls.{answered, after as after_call, run_end, reached}
use Rattle.law_node.specs.Names.{modes_of}
use Rattle.promises.specs.Names.{SentPdu, sent_pdus, AreNamed}
use Rattle.promises.specs.Events.{is_of_writing}
use Rattle.law_node.proofs.Blocks.{has_what_was_written}
use Rattle.law_node.proofs.Naming.{names_what_it_sends, tells_what_it_sends}
use Rattle.law_run.specs.AnyCalls.Blocks.{MayBuild}
use Rattle.promises.specs.Built.{IsTold, block_told}
use Rattle.pdu_show.specs.declared.kinds.Layout.{Layout}
use Rattle.law_run.specs.AnyCalls.Ends.{built_told, visit_told}
use Rattle.law_run.proofs.AnyCalls.Sending.{still_eight, holds_loaded}

-- ---- what every end keeps: its side, and its eight processes

pub record IsWhole (side : Side) (e : End) : Type 0 where
  pub side_is : e.side ≡ side
  pub eight : length e.sender.processes ≡ 8

fed_eight : (s : Sending) (t : ℕ) (good : Bool) → length s.processes ≡ 8
    → length (after_feedback s t good).processes ≡ 8
unfolding after_feedback
fed_eight s t good e = length-set s.processes (t % 8) _ ∙ e

loaded_whole : (side : Side) (t grant : ℕ) (e : End) → IsWhole side e → IsWhole side (loaded t grant e)
unfolding loaded Rattle.harq.specs.Sending.after_load
loaded_whole side t grant e w =
    record { side_is = w.side_is; eight = length-set e.sender.processes (t % 8) _ ∙ w.eight }

pub visited_whole : (side : Side) (t : ℕ) (order : Order) (e : End) → IsWhole side e → IsWhole side (visited t order e)
unfolding visited
visited_whole side t order e w = record { side_is = w.side_is; eight = still_eight e.sender t order w.eight }

turn_whole : (v : Visit) (side : Side) (t : Turn) (e : End) → IsWhole side e
    → IsWhole side (answered v t (built_by v t.tti t.grant e))
turn_whole New side t e w =
    let l = loaded_whole side t.tti t.grant e w in
    record { side_is = l.side_is; eight = fed_eight (loaded t.tti t.grant e).sender t.tti t.good l.eight }
turn_whole (Resend rv) side t e w = record { side_is = w.side_is; eight = fed_eight e.sender t.tti t.good w.eight }
turn_whole Silent side t e w = w

call_whole : (side : Side) (e : End) (c : EndCall) → IsWhole side e → IsWhole side (after_call e c)
unfolding with_visits with_bearer submitted discarding expired built joined left_cell reset fresh_sender
call_whole side e (SetVisits maximum) w = record { side_is = w.side_is; eight = refl }
call_whole side e (SetReports reports) w = record { side_is = w.side_is; eight = w.eight }
call_whole side e (Add c keys) w = record { side_is = w.side_is; eight = w.eight }
call_whole side e (Submit lcid sdu) w = record { side_is = w.side_is; eight = w.eight }
call_whole side e (SetDiscard lcid ttis) w = record { side_is = w.side_is; eight = w.eight }
call_whole side e Tick w = record { side_is = w.side_is; eight = w.eight }
call_whole side e TickBuckets w = record { side_is = w.side_is; eight = w.eight }
call_whole side e (Visits t) w =
    turn_whole (visit t.tti t.order e) side t (visited t.tti t.order e) (visited_whole side t.tti t.order e w)
call_whole side e (Grants tti) w = record { side_is = w.side_is; eight = w.eight }
call_whole side e (Granted tti good) w = record { side_is = w.side_is; eight = w.eight }
call_whole side e (Assigned tti ndi good) w = record { side_is = w.side_is; eight = w.eight }
call_whole side e (Pass tti) w = record { side_is = w.side_is; eight = w.eight }
call_whole side e (Receive block) w = record { side_is = w.side_is; eight = w.eight }
call_whole side e (Expire lcid clock) w = record { side_is = w.side_is; eight = w.eight }
call_whole side e (Move keys) w = record { side_is = w.side_is; eight = refl }

run_whole : (side : Side) (cs : List EndCall) (e : End) → IsWhole side e → IsWhole side (run_end cs e)
run_whole side [] e w = w
run_whole side (c ∷ cs) e w = run_whole side cs (after_call e c) (call_whole side e c w)

pub reached_whole : (side : Side) (maximum : ℕ) (reports : Bool) (calls : List EndCall)
    → IsWhole side (reached side maximum reports calls)
unfolding fresh fresh_sender
reached_whole side maximum reports calls =
    run_whole side calls (fresh side maximum reports) (record { side_is = refl; eight = refl })

-- ---- a visit builds only by a grant

not_new : (held : Option Block) → resend_or Silent held ≡ New → ⊥
not_new None e = cc
not_new (Some b) e = cc

pub some_by : (t grant : ℕ) (order : Order) (e : End) → IsEnough order grant → visit t order e ≡ New → 1 ≤ grant
unfolding visit_answer
some_by t grant orders.Silent e enough new = let no : Silent ≡ New = new in absurd cc
some_by t grant orders.Unseen e enough new = absurd (not_new (process_at e.sender t).held new)
some_by t grant orders.Free e enough new = enough
some_by t grant (orders.Grant ndi) e enough new = enough

-- ---- what is told

pub sends_kept : (es : List Event) → sent_pdus (filter is_of_writing es) ≡ sent_pdus es
sends_kept [] = refl
sends_kept (events.Send lcid how sn ∷ es) =
    ap (λ (l : List SentPdu). record { lcid = lcid; how = how; sn = sn } ∷ l) (sends_kept es)
sends_kept (events.Take lcid count len ∷ es) = sends_kept es
sends_kept (events.Report lcid fms bitmap ∷ es) = sends_kept es
sends_kept (events.Wait lcid why ∷ es) = sends_kept es
sends_kept (events.Start lcid clock ∷ es) = sends_kept es
sends_kept (events.Stop lcid clock ∷ es) = sends_kept es
sends_kept (events.Expired lcid clock ∷ es) = sends_kept es
sends_kept (events.Up lcid octets ∷ es) = sends_kept es
sends_kept (events.Fail lcid sn ∷ es) = sends_kept es
sends_kept (events.Drop lcid why ∷ es) = sends_kept es
sends_kept (events.Integrity lcid found wanted ∷ es) = sends_kept es
sends_kept (events.BadMac fault ∷ es) = sends_kept es
sends_kept (events.BadRlc lcid fault ∷ es) = sends_kept es
sends_kept (events.BadPdcp lcid fault ∷ es) = sends_kept es
sends_kept (events.Discard lcid len ∷ es) = sends_kept es

-- the block that the process holds then
pub block_is : (t grant : ℕ) (order : Order) (e : End) → length e.sender.processes ≡ 8 → visit t order e ≡ New
    → block_at t (built t grant order e) ≡ new_block (visited t order e) grant
unfolding built loaded visited
block_is t grant order e eight new =
    ap (λ (v : Visit). block_at t (built_by v t grant (visited t order e))) new
    ∙ holds_loaded (after_visit e.sender t order) t (new_block (visited t order e) grant)
    (still_eight e.sender t order eight)

unfoldable pub is_told : (side : Side) (maximum : ℕ) (reports : Bool) (calls : List EndCall) → AreGiven calls
    → (t grant : ℕ) (order : Order) → grant ≤ 9422 → 1 ≤ grant
    → visit t order (reached side maximum reports calls) ≡ New
    → IsTold side grant (filter is_of_writing (building t grant order (reached side maximum reports calls)))
    (new_block (visited t order (reached side maximum reports calls)) grant)
is_told side maximum reports calls g t grant order within some new =
    let e = reached side maximum reports calls in
    let v = visited t order e in
    let b = has_what_was_written side maximum reports calls g t order grant some within in
    let kept = sends_kept (building t grant order e) in
    let s : v.side ≡ side = (visited_whole side t order e (reached_whole side maximum reports calls)).side_is in
    record {
      size_is = b.size_is;
      fronts = b.fronts;
      report = report v grant;
      sdus = all_sdus v grant v.buckets.channels;
      ends = b.ends;
      two = b.two;
      one = b.one;
      writing_is = b.writing_is;
      read = ap (λ (x : Side). reading (sent_by x) (new_block v grant)) (sym s) ∙ b.read;
      sent = ap (λ (l : List SentPdu). map (λ (x : SentPdu). x.lcid) l) kept
          ∙ tells_what_it_sends side maximum reports calls g t grant order new;
      modes = modes_of v;
      named = subst (λ (l : List SentPdu). AreNamed (modes_of v) l (all_sdus v grant v.buckets.channels)) (sym kept)
          (names_what_it_sends side maximum reports calls g t grant order new);
    }

visit_builds : (w : Visit) (side : Side) (maximum : ℕ) (reports : Bool) (calls : List EndCall) → AreGiven calls
    → (t grant : ℕ) (order : Order) (kinds : List (Option Layout)) → grant ≤ 9422 → IsEnough order grant
    → visit t order (reached side maximum reports calls) ≡ w
    → MayBuild side t grant kinds (built_told w side t grant order kinds (reached side maximum reports calls))
visit_builds New side maximum reports calls g t grant order kinds within enough is =
    let e = reached side maximum reports calls in
    let octets = new_block (visited t order e) grant in
    let es = filter is_of_writing (building t grant order e) in
    inr (record {
      events = es;
      octets = octets;
      told_is = ap (λ (x : List ℕ). map (records.Of side) es ++ block_told side t kinds x)
          (block_is t grant order e (reached_whole side maximum reports calls).eight is);
      block_is = is_told side maximum reports calls g t grant order within (some_by t grant order e enough is) is;
    })
visit_builds (Resend rv) side maximum reports calls g t grant order kinds within enough is = inl refl
visit_builds Silent side maximum reports calls g t grant order kinds within enough is = inl refl

pub blocks_are_told : (side : Side) (maximum : ℕ) (reports : Bool) (calls : List EndCall) → AreGiven calls
    → (t grant : ℕ) (order : Order) (kinds : List (Option Layout)) → grant ≤ 9422 → IsEnough order grant
    → MayBuild side t grant kinds (visit_told side t grant order kinds (reached side maximum reports calls))
blocks_are_told side maximum reports calls g t grant order kinds within enough =
    visit_builds (visit t order (reached side maximum reports calls)) side maximum reports calls g t grant order kinds
    within enough refl
