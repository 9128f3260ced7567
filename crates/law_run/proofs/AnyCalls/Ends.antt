-- The test loop as an end tells and as timers run.
use Rattle.std.proofs.Common.{◌≡◌, ℕ, ◌+◌, Bool, true, false, ◌&&◌, nat_le, cond, if◌then◌else◌}
use Rattle.std.proofs.Common.{List, [], ◌∷◌, ◌++◌, length, map, append_assoc, append-nil, refl, ap, sym}
use Rattle.std.proofs.Common.{◌∙◌, arith}
use Rattle.std.specs.List.{AllByRecursion, filter}
use Rattle.std.proofs.lemmas.List.{map-append}
use Rattle.air_link.specs.Downlink.{receives}
use Rattle.air_link.specs.Downlink.{hears}
use Rattle.air_link.specs.Link.{Link, says, end_of, with_end}
use Rattle.air_link.specs.Loops.{loops, pays}
use Rattle.air_link.specs.Telling.{delivers, noted, tells, tells_all}
use Rattle.air_link.specs.Ttis.{begins, tells_sleep, grows, ticks, times, keeps_first, timed}
use Rattle.air_record.specs.declared.record.Record.{Record}
use Rattle.air_record.specs.declared.record.Record.TheVariants as records
use Rattle.bearer_types.specs.declared.event.Event.{Event}
use Rattle.bearer_types.specs.declared.event.Event.TheVariants as events
use Rattle.l2_node.specs.End.{End}
use Rattle.l2_node.specs.Hearing.{received, ticked}
use Rattle.l2_types.specs.declared.event.Lost.TheVariants as losts
use Rattle.l2_types.specs.declared.side.Side.{Side}
use Rattle.l2_types.specs.declared.side.Side.TheVariants.{Nb, Ue}
use Rattle.test_loop.specs.declared.Mode.{Mode}
use Rattle.test_loop.specs.Items.{Item, item}
use Rattle.test_loop.specs.Loops.{is_on, is_keeping, after_tick}
use Rattle.law_node.specs.Calls.{Tick, Receive}
use Rattle.law_node.proofs.Looping.{tells_no_loop}
use Rattle.promises.specs.Events.{is_of_loop, TellNoLoop}
use Rattle.promises.specs.Loops.{item_back, items_due, looped, is_dropped, item_count}
use Rattle.law_run.proofs.AnyCalls.Gathering.{Seen, seen, Rests, rests_then, rests_unseen, rests_says, waiting}
use Rattle.law_run.proofs.AnyCalls.Gathering.{Goes, goes_then, goes_resting, loops_go, pays_go}
use Rattle.law_run.proofs.AnyCalls.Handing.{is_up}
use Rattle.law_run.proofs.AnyCalls.Returning.{part_of_same, on_both, back_one, IsSilent}

pub rests_end : (side : Side) (e : End) (l : Link) → Rests l (with_end side e l)
rests_end Nb e l = rests_unseen l (with_end Nb e l) refl
rests_end Ue e l = rests_unseen l (with_end Ue e l) refl

-- ---- what an end tells

-- an SDU goes up at the terminal
abbrev handed_up : Side → Event → Bool
handed_up Nb e = false
handed_up Ue e = is_up e

abbrev pub HandUpNone : Side → List Event → Type 0
HandUpNone side es = AllByRecursion (λ e. handed_up side e ≡ false) es

told_silent : (side : Side) (e : Event) → handed_up side e ≡ false → is_of_loop e ≡ false
    → IsSilent (records.Of side e)
told_silent Nb e h own = record { none_back = refl; none_due = λ mode. refl; none_lost = λ k. refl }
told_silent Ue (events.Up lcid octets) h own = cc
told_silent Ue (events.Drop lcid losts.Loop) h own = cc
told_silent Ue e h own = record { none_back = refl; none_due = λ mode. refl; none_lost = λ k. refl }

noted_seen : (side : Side) (e : Event) (l : Link) → handed_up side e ≡ false → seen (noted side e l) ≡ seen l
noted_seen Nb (events.Up lcid octets) l h = refl
noted_seen Ue (events.Up lcid octets) l h = cc
noted_seen Nb (events.Fail lcid sn) l h = refl
noted_seen Ue (events.Fail lcid sn) l h = refl
noted_seen side e l h = refl

tell_rests : (side : Side) (e : Event) (l : Link) → handed_up side e ≡ false → is_of_loop e ≡ false
    → Rests l (tells side e l)
tell_rests side e l h own = record {
  more = records.Of side e ∷ [];
  seen_is =
      ap (λ (s : Seen). record { mode = s.mode; kept = s.kept; ups = s.ups; out = s.out ++ records.Of side e ∷ [] })
      (noted_seen side e l h);
  silent = (told_silent side e h own, tt);
}

-- where events tell nothing of the loop, the first of them doesn't, nor do the rest
own_first : (b : Bool) (e : Event) (es : List Event) → is_of_loop e ≡ b
    → cond b (e ∷ filter is_of_loop es) (filter is_of_loop es) ≡ []
    → (is_of_loop e ≡ false) × TellNoLoop es
own_first true e es is none = let no : e ∷ filter is_of_loop es ≡ [] = none in cc
own_first false e es is none = (is, none)

all_own : (e : Event) (es : List Event) → TellNoLoop (e ∷ es) → (is_of_loop e ≡ false) × TellNoLoop es
all_own e es none = own_first (is_of_loop e) e es refl none

pub tells_rest : (side : Side) (es : List Event) (l : Link) → HandUpNone side es → TellNoLoop es
    → Rests l (tells_all side es l)
tells_rest side [] l h none = rests_unseen l l refl
tells_rest side (e ∷ es) l h none =
    let m = tells side e l in
    let own = all_own e es none in
    rests_then l m (tells_all side es m) (tell_rests side e l h.0 own.0) (tells_rest side es m h.1 own.1)

-- none goes up at the base station
pub nb_none : (es : List Event) → HandUpNone Nb es
nb_none [] = tt
nb_none (e ∷ es) = (refl, nb_none es)

-- one that goes up waits where it may come back
gathered : (b : Bool) (mode : Mode) (i : Item) (one : Record) (l : Link) → looped one ≡ []
    → ((lcid : ℕ) → is_dropped lcid one ≡ false) → items_due mode one ≡ (if b then item_back mode i ∷ [] else [])
    → (b ≡ true → is_on mode ≡ true)
    → Goes mode l (says one (if b then record l { ups = l.ups ++ i ∷ [] } else l))
gathered false mode i one l none stays is on' s =
    let w = waiting mode l in
    record {
      more = one ∷ [];
      out_is = refl;
      stands = record { mode_is = s.mode_is; none_kept = s.none_kept; none_waits = s.none_waits };
      come_back = back_one mode w w one (rw none (rw is (part_of_same w (w ++ []) (append-nil w))))
          (λ lcid. rw none (rw is (rw (stays lcid) (omega arith))));
    }
gathered true mode i one l none stays is on' s =
    let kept = l.looping.kept in
    let before = kept ++ map (item_back mode) l.ups in
    let after' = kept ++ map (item_back mode) (l.ups ++ i ∷ []) in
    let same : before ++ (item_back mode i ∷ []) ≡ after' =
    append_assoc kept (map (item_back mode) l.ups) (item_back mode i ∷ [])
    ∙ ap (λ (x : List Item). kept ++ x) (sym (map-append (item_back mode) l.ups (i ∷ []))) in
    record {
      more = one ∷ [];
      out_is = refl;
      stands = record {
        mode_is = s.mode_is;
        none_kept = s.none_kept;
        none_waits = λ h. let no : true ≡ false = sym (on' refl) ∙ h in cc;
      };
      come_back =
          back_one mode before after' one (rw none (rw is
          (part_of_same after' (before ++ (item_back mode i ∷ [])) same)))
          (λ lcid.
          let both : item_count lcid after' ≡ item_count lcid before + item_count lcid (item_back mode i ∷ []) =
          ap (item_count lcid) (sym same) ∙ on_both lcid before (item_back mode i ∷ []) in
          rw none (rw is (rw (stays lcid) (omega (arith, both)))));
    }

-- whether it may come back
abbrev may_return : Mode → ℕ → List ℕ → Bool
may_return mode lcid octets = (is_on mode && nat_le 3 lcid) && nat_le 1 (length octets)

first_of : (a b c : Bool) → ((a && b) && c) ≡ true → a ≡ true
first_of true b c e = refl
first_of false b c e = e

up_goes : (mode : Mode) (lcid : ℕ) (octets : List ℕ) (l : Link) → Goes mode l (tells Ue (events.Up lcid octets) l)
up_goes mode lcid octets l s =
    let one = records.Of Ue (events.Up lcid octets) in
    let i = item lcid octets in
    let m = delivers Ue lcid l in
    let b = may_return l.looping.mode lcid octets in
    let is : items_due mode one ≡ (if b then item_back mode i ∷ [] else []) =
    ap (λ (x : Mode). if may_return x lcid octets then item_back mode i ∷ [] else []) (sym s.mode_is) in
    goes_then mode l m (says one (if b then record m { ups = m.ups ++ i ∷ [] } else m))
    (goes_resting mode l m (rests_unseen l m refl))
    (gathered b mode i one m refl (λ k. refl) is (λ e. ap is_on (sym s.mode_is)
    ∙ first_of (is_on l.looping.mode) (nat_le 3 lcid) (nat_le 1 (length octets)) e)) s

tell_goes : (mode : Mode) (e : Event) (l : Link) → is_of_loop e ≡ false → Goes mode l (tells Ue e l)
tell_goes mode (events.Up lcid octets) l own = up_goes mode lcid octets l
tell_goes mode e l own = goes_resting mode l (tells Ue e l) (tell_rests Ue e l refl own)

ue_tells_go : (mode : Mode) (es : List Event) (l : Link) → TellNoLoop es → Goes mode l (tells_all Ue es l)
ue_tells_go mode [] l none = goes_resting mode l l (rests_unseen l l refl)
ue_tells_go mode (e ∷ es) l none =
    let m = tells Ue e l in
    let own = all_own e es none in
    goes_then mode l m (tells_all Ue es m) (tell_goes mode e l own.0) (ue_tells_go mode es m own.1)

pub tells_go : (mode : Mode) (side : Side) (es : List Event) (l : Link) → TellNoLoop es
    → Goes mode l (tells_all side es l)
tells_go mode Nb es l none = goes_resting mode l (tells_all Nb es l) (tells_rest Nb es l (nb_none es) none)
tells_go mode Ue es l none = ue_tells_go mode es l none

pub hears_go : (mode : Mode) (side : Side) (block : List ℕ) (l : Link) → Goes mode l (hears side block l)
hears_go mode side block l =
    let m = receives side block l in
    let es = (received (end_of side l) block).events in
    goes_then mode l m (tells_all side es m) (goes_resting mode l m (rests_end side _ l))
    (tells_go mode side es m (tells_no_loop (end_of side l) (Receive block)))

-- ---- timers

times_go : (mode : Mode) (side : Side) (l : Link) → Goes mode l (times side l)
times_go mode side l =
    let es = (ticked (end_of side l)).events in
    let m = ticks side l in
    let n = tells_all side es m in
    goes_then mode l n (grows side n)
    (goes_then mode l m n (goes_resting mode l m (rests_end side _ l))
    (tells_go mode side es m (tells_no_loop (end_of side l) Tick)))
    (goes_resting mode n (grows side n) (rests_end side _ n))

keeps_if : (b : Bool) (mode : Mode) (l : Link) → Goes mode l (if b then loops l else l)
keeps_if true mode l = loops_go mode l
keeps_if false mode l = goes_resting mode l l (rests_unseen l l refl)

pub timed_goes : (mode : Mode) (l : Link) → Goes mode l (timed l)
unfolding timed after_tick
timed_goes mode l =
    let j : Link = record l { looping = after_tick l.looping } in
    let m = times Nb j in
    let n = times Ue m in
    let o = keeps_first n in
    let to_m = goes_then mode l j m (goes_resting mode l j (rests_unseen l j refl)) (times_go mode Nb j) in
    let to_n = goes_then mode l m n to_m (times_go mode Ue m) in
    goes_then mode l o (pays o) (goes_then mode l n o to_n (keeps_if (is_keeping n.looping.mode) mode n))
    (pays_go mode o)

pub sleep_rests : (asleep : Bool) (l : Link) → Rests l (tells_sleep asleep l)
sleep_rests true l =
    rests_says records.Sleep l (record { none_back = refl; none_due = λ mode. refl; none_lost = λ k. refl })
sleep_rests false l = rests_unseen l l refl

pub begins_rests : (l : Link) → Rests l (begins l)
begins_rests l = record {
  more = records.Tti l.ttis ∷ [];
  seen_is = refl;
  silent = (record { none_back = refl; none_due = λ mode. refl; none_lost = λ k. refl }, tt);
}
