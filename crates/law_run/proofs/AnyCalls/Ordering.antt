-- The records of a link stand in order: some behind others, what the loop tells, what an end tells.
use Rattle.std.proofs.Common.{◌≡◌, ℕ, Bool, true, false, if◌then◌else◌, Option, Some, None, List, [], ◌∷◌, ◌++◌, map}
use Rattle.std.proofs.Common.{append_assoc, append-nil, refl, ap, sym, inl, inr, ◌∙◌}
use Rattle.air_link.specs.Link.{Link, says, with_end}
use Rattle.air_link.specs.Loops.{loses, returns_by, returns, returns_all, kept_by, takes, takes_all, loops, owed, paid}
use Rattle.air_link.specs.Loops.{pays}
use Rattle.air_link.specs.Telling.{tells_all}
use Rattle.air_record.specs.declared.record.Record.{Record}
use Rattle.air_record.specs.declared.record.Record.TheVariants as records
use Rattle.law_words.specs.Sequences.{SequencesOf, nothing, just, ◌then◌, maybe}
use Rattle.bearer_types.specs.declared.event.Event.{Event}
use Rattle.l2_bits.specs.declared.fault.SubmitRefusal.{SubmitRefusal}
use Rattle.l2_node.specs.End.{End}
use Rattle.l2_node.specs.Finding.{has}
use Rattle.l2_node.specs.Submitting.{refusal}
use Rattle.l2_types.specs.declared.side.Side.{Side}
use Rattle.l2_types.specs.declared.side.Side.TheVariants.{Nb, Ue}
use Rattle.promises.specs.Events.{TellNoLoop}
use Rattle.test_loop.specs.declared.Kept.{Kept}
use Rattle.test_loop.specs.declared.Kept.TheVariants.{Now, Later, Full}
use Rattle.test_loop.specs.Items.{Item}
use Rattle.test_loop.specs.Loops.{is_on, taken_answer, after_taken}
use Rattle.law_run.specs.AnyCalls.Order.{Leaves}
use Rattle.promises.specs.Order.{OfRecords, EndTells, LoopTells}
use Rattle.law_run.proofs.AnyCalls.Going.{Seen, told_seen}

-- ---- one behind the other

pub leaves_then : (These Those : OfRecords) (l m n : Link) → Leaves These l m → Leaves Those m n
    → Leaves (These then Those) l n
leaves_then These Those l m n p q = record {
  more = p.more ++ q.more;
  out_is = q.out_is ∙ ap (λ (x : List Record). x ++ q.more) p.out_is ∙ append_assoc l.out p.more q.more;
  in_order = record { first = p.more; second = q.more; told_are = refl; is_first = p.in_order; is_second = q.in_order };
}

-- behind a stage that adds nothing, and before one
pub leaves_from : (These : OfRecords) (l m n : Link) → m.out ≡ l.out → Leaves These m n → Leaves These l n
leaves_from These l m n same q =
    record { more = q.more; out_is = q.out_is ∙ ap (λ (x : List Record). x ++ q.more) same; in_order = q.in_order }

pub leaves_to : (These : OfRecords) (l m n : Link) → n.out ≡ m.out → Leaves These l m → Leaves These l n
leaves_to These l m n same p = record { more = p.more; out_is = same ∙ p.out_is; in_order = p.in_order }

pub leaves_as : (These : OfRecords) (l m : Link) (more : List Record) → m.out ≡ l.out ++ more → These more
    → Leaves These l m
leaves_as These l m more out is = record { more = more; out_is = out; in_order = is }

pub leaves_nothing : (l m : Link) → m.out ≡ l.out → Leaves nothing l m
leaves_nothing l m same = leaves_as nothing l m [] (same ∙ sym (append-nil l.out)) refl

pub leaves_one : (one : Record) (l : Link) → Leaves (just one) l (says one l)
leaves_one one l = leaves_as (just one) l (says one l) (one ∷ []) refl refl

pub may_leave : (These : OfRecords) (l m : Link) → Leaves These l m → Leaves (maybe These) l m
may_leave These l m p = record { more = p.more; out_is = p.out_is; in_order = inr p.in_order }

pub may_rest : (These : OfRecords) (l m : Link) → m.out ≡ l.out → Leaves (maybe These) l m
may_rest These l m same = leaves_as (maybe These) l m [] (same ∙ sym (append-nil l.out)) (inl refl)

-- ---- an end

pub end_out : (side : Side) (e : End) (l : Link) → (with_end side e l).out ≡ l.out
end_out Nb e l = refl
end_out Ue e l = refl

pub end_tells : (of : SequencesOf Event) (side : Side) (es : List Event) (l : Link) → TellNoLoop es → of es
    → Leaves (EndTells side of) l (tells_all side es l)
end_tells of side es l none is =
    leaves_as (EndTells side of) l (tells_all side es l) (map (records.Of side) es)
    (ap (λ (s : Seen). s.out) (told_seen side es l))
    (record { events = es; told_is = refl; no_loop = none; in_order = is })

-- ---- the test loop

all_both : (xs ys : List Record) → LoopTells xs → LoopTells ys → LoopTells (xs ++ ys)
all_both [] ys p q = q
all_both (x ∷ xs) ys p q = (p.0, all_both xs ys p.1 q)

pub loop_then : (l m n : Link) → Leaves LoopTells l m → Leaves LoopTells m n → Leaves LoopTells l n
loop_then l m n p q = record {
  more = p.more ++ q.more;
  out_is = q.out_is ∙ ap (λ (x : List Record). x ++ q.more) p.out_is ∙ append_assoc l.out p.more q.more;
  in_order = all_both p.more q.more p.in_order q.in_order;
}

pub loop_rests : (l m : Link) → m.out ≡ l.out → Leaves LoopTells l m
loop_rests l m same = leaves_as LoopTells l m [] (same ∙ sym (append-nil l.out)) tt

loses_tells : (lcid : ℕ) (l : Link) → Leaves LoopTells l (loses lcid l)
loses_tells lcid l = leaves_as LoopTells l (loses lcid l) _ refl (tt, tt)

returns_by_tells : (r : Option SubmitRefusal) (lcid : ℕ) (octets : List ℕ) (l : Link)
    → Leaves LoopTells l (returns_by r lcid octets l)
returns_by_tells (Some broken) lcid octets l = loses_tells lcid l
returns_by_tells None lcid octets l =
    leaves_as LoopTells l (returns_by None lcid octets l) (records.Looped lcid octets ∷ []) refl (tt, tt)

returns_if : (b : Bool) (lcid : ℕ) (octets : List ℕ) (l : Link)
    → Leaves LoopTells l (if b then returns_by (refusal lcid octets l.ue) lcid octets l else loses lcid l)
returns_if true lcid octets l = returns_by_tells (refusal lcid octets l.ue) lcid octets l
returns_if false lcid octets l = loses_tells lcid l

returns_tells : (lcid : ℕ) (octets : List ℕ) (l : Link) → Leaves LoopTells l (returns lcid octets l)
returns_tells lcid octets l = returns_if (has lcid l.ue.bearers) lcid octets l

returns_all_tells : (is : List Item) (l : Link) → Leaves LoopTells l (returns_all is l)
returns_all_tells [] l = loop_rests l l refl
returns_all_tells (i ∷ is) l = let m = returns i.lcid i.octets l in
    loop_then l m (returns_all is m) (returns_tells i.lcid i.octets l) (returns_all_tells is m)

kept_tells : (k : Kept) (lcid : ℕ) (l : Link) → Leaves LoopTells l (kept_by k lcid l)
kept_tells (Now octets) lcid l = returns_tells lcid octets l
kept_tells Later lcid l = loop_rests l l refl
kept_tells Full lcid l = loses_tells lcid l

takes_if : (b : Bool) (i : Item) (l : Link)
    → Leaves LoopTells l
    (if b then kept_by (taken_answer l.looping i.octets) i.lcid (record l { looping = after_taken l.looping i })
    else l)
takes_if true i l =
    let m : Link = record l { looping = after_taken l.looping i } in
    leaves_from LoopTells l m _ refl (kept_tells (taken_answer l.looping i.octets) i.lcid m)
takes_if false i l = loop_rests l l refl

takes_all_tells : (is : List Item) (l : Link) → Leaves LoopTells l (takes_all is l)
takes_all_tells [] l = loop_rests l l refl
takes_all_tells (i ∷ is) l = let m = takes i l in
    loop_then l m (takes_all is m) (takes_if (is_on l.looping.mode) i l) (takes_all_tells is m)

pub loops_tells : (l : Link) → Leaves LoopTells l (loops l)
unfolding loops
loops_tells l = let m : Link = record l { ups = [] } in
    leaves_from LoopTells l m (takes_all l.ups m) refl (takes_all_tells l.ups m)

pub pays_tells : (l : Link) → Leaves LoopTells l (pays l)
unfolding pays
pays_tells l = let m : Link = record l { looping = paid l.looping } in
    leaves_from LoopTells l m (returns_all (owed l.looping) m) refl (returns_all_tells (owed l.looping) m)
