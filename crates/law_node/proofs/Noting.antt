-- The numbers that an end notes are those that its bearers gave.
use Rattle.std.proofs.Common.{◌≡◌, ◌<◌, ℕ, zero, suc, ◌%◌, ◌==◌, if◌then◌else◌, Bool, true, false, Option, Some, None}
use Rattle.std.proofs.Common.{List, [], ◌∷◌, length, get_or, set, replicate, get_or-set_same, get_or-set_other, refl}
use Rattle.std.proofs.Common.{ap, sym, ◌∙◌, subst, arith, inl, inr}
use Rattle.std.proofs.lemmas.Bool.{cases_eq, or_cases}
use Rattle.std.proofs.lemmas.Bool.Decides.{nat_tests}
use Rattle.std.proofs.Math.ListN.{length-set}
use Rattle.bearer.specs.Bearer.{Of, Life}
use Rattle.bearer.specs.Taking.{number}
use Rattle.harq.specs.declared.sender.Order.{Order}
use Rattle.harq.specs.declared.sender.Visit.{Visit}
use Rattle.harq.specs.declared.sender.Visit.TheVariants.{New, Resend, Silent}
use Rattle.harq.specs.Sending.{Sending}
use Rattle.l2_types.specs.declared.channel.Channel.{Channel}
use Rattle.l2_types.specs.declared.side.Side.{Side}
use Rattle.prioritise.proofs.ChannelLemmas.{both_false}
use Rattle.prioritise.specs.Channels.{has as has_channel}
use Rattle.prioritise.specs.ShareLaws.{IsSound}
use Rattle.l2_node.specs.Building.{visited, loaded, built_by, built, visit}
use Rattle.l2_node.specs.End.{End, fresh, with_bearer, reset, with_visits}
use Rattle.l2_node.specs.Finding.{Numbers, has, counted, lowest}
use Rattle.l2_node.specs.Hearing.{expired}
use Rattle.l2_node.specs.Moving.{left_cell, joined}
use Rattle.l2_node.specs.Submitting.{submitted, discarding}
use Rattle.l2_node.specs.Writing.{shares, Work, work, nothing_written, noted, writes, all_write, written}
use Rattle.law_node.specs.Calls.{Turn, Call, SetVisits, SetReports, Add, Submit, SetDiscard, Tick, TickBuckets, Visits}
use Rattle.law_node.specs.Calls.{Grants, Granted, Assigned, Pass, Receive, Expire, Move, answered, after, AreGiven}
use Rattle.law_node.specs.Holding.{Given, none_given, given_by, with_block, given_at, given_after, HoldsNone}
use Rattle.law_node.specs.Watching.{doing, Watched, watch, watched}
use Rattle.law_node.proofs.Holding.{flow_at, row_other, Young, call_young, fresh_young}
use Rattle.law_node.proofs.Sharing.{Apart, sound_apart}
use Rattle.law_node.proofs.Sound.{visited_sound, HasSoundChannels, call_channels_sound, fresh_channels_sound}
use Rattle.law_node.proofs.Writers.{Stays, stays_by}

-- ---- one block

noted_length : (numbers : List (Option ℕ)) (m : ℕ) (given : Option ℕ) → length (noted numbers m given) ≡ length numbers
noted_length numbers m None = refl
noted_length numbers m (Some n) = length-set numbers m (Some n)

noted_here : (numbers : List (Option ℕ)) (m : ℕ) (given : Option ℕ) → m < length numbers
    → get_or numbers m None ≡ None → get_or (noted numbers m given) m None ≡ given
noted_here numbers m None lt e = e
noted_here numbers m (Some n) lt e = get_or-set_same numbers m (Some n) None lt

row_length : (t : Bool) (m share : ℕ) (held : Option ℕ) (w : Work) → has m w.bearers ≡ t
    → length (writes m share held w).block.numbers ≡ length w.block.numbers
row_length true m share held w h = rw h (noted_length w.block.numbers m (number (flow_at m w.bearers) share held))
row_length false m share held w h = rw h refl

row_apart : (t : Bool) (m share l : ℕ) (held : Option ℕ) (w : Work) → has m w.bearers ≡ t → (l ≡ m → ⊥)
    → get_or (writes m share held w).block.numbers l None ≡ get_or w.block.numbers l None
row_apart true m share l held w h apart =
    rw h (row_other w.block.numbers m l (number (flow_at m w.bearers) share held) apart)
row_apart false m share l held w h apart = rw h refl

-- what the bearer of a channel gives
abbrev number_given : Sending → Numbers → List ℕ → List (Of Life) → ℕ → Option ℕ
number_given s numbers amounts bs l = if has l bs then number (flow_at l bs) (get_or amounts l 0) (lowest s numbers l)
    else None

row_here : (t : Bool) (m : ℕ) (s : Sending) (numbers : Numbers) (amounts : List ℕ) (w : Work) → has m w.bearers ≡ t
    → m < length w.block.numbers → get_or w.block.numbers m None ≡ None
    → get_or (writes m (get_or amounts m 0) (lowest s numbers m) w).block.numbers m None
    ≡ number_given s numbers amounts w.bearers m
row_here true m s numbers amounts w h lt e =
    rw h (noted_here w.block.numbers m (number (flow_at m w.bearers) (get_or amounts m 0) (lowest s numbers m)) lt e)
row_here false m s numbers amounts w h lt e = rw h e

gives_same : (t : Bool) (s : Sending) (numbers : Numbers) (amounts : List ℕ) (l : ℕ) (bs ds : List (Of Life))
    → has l bs ≡ t → Stays l bs ds → number_given s numbers amounts ds l ≡ number_given s numbers amounts bs l
gives_same true s numbers amounts l bs ds h k =
    rw (k.has_is, h) (ap (λ (b : Of Life). number b.state.flow (get_or amounts l 0) (lowest s numbers l))
    (k.bearer_is h))
gives_same false s numbers amounts l bs ds h k = rw (k.has_is, h) refl

others_row : (s : Sending) (numbers : Numbers) (amounts : List ℕ) (cs : List Channel) (w : Work) (l : ℕ)
    → has_channel l cs ≡ false → get_or (all_write s numbers amounts cs w).block.numbers l None
    ≡ get_or w.block.numbers l None
others_row s numbers amounts [] w l e = refl
others_row s numbers amounts (c ∷ cs) w l e =
    let b = both_false (l == c.lcid) (has_channel l cs) e in
    let apart : l ≡ c.lcid → ⊥ = grind (arith, nat_tests) in
    let share = get_or amounts c.lcid 0 in
    let held = lowest s numbers c.lcid in
    others_row s numbers amounts cs (writes c.lcid share held w) l b.1
    ∙ row_apart (has c.lcid w.bearers) c.lcid share l held w refl apart

all_row : (s : Sending) (numbers : Numbers) (amounts : List ℕ) (cs : List Channel) (w : Work) (l : ℕ) → Apart cs
    → length w.block.numbers ≡ 11 → get_or w.block.numbers l None ≡ None → has_channel l cs ≡ true
    → get_or (all_write s numbers amounts cs w).block.numbers l None ≡ number_given s numbers amounts w.bearers l
all_row s numbers amounts [] w l a len e h = absurd cc
all_row s numbers amounts (c ∷ cs) w l a len e h =
    let share = get_or amounts c.lcid 0 in
    let held = lowest s numbers c.lcid in
    let w' = writes c.lcid share held w in
    elim (cases_eq l c.lcid) [
      | inl same ↦
          subst (λ (m : ℕ). get_or (all_write s numbers amounts cs w').block.numbers m None
          ≡ number_given s numbers amounts w.bearers m) (sym same)
          (others_row s numbers amounts cs w' c.lcid a.1
          ∙ row_here (has c.lcid w.bearers) c.lcid s numbers amounts w refl (omega (arith, a.0, len))
          (subst (λ (m : ℕ). get_or w.block.numbers m None ≡ None) same e))
      | inr apart ↦
          let more : has_channel l cs ≡ true = elim (or_cases (l == c.lcid) (has_channel l cs) h) [
            | inl here ↦ absurd (grind (arith, nat_tests))
            | inr there ↦ there
          ] in
          all_row s numbers amounts cs w' l a.2 (row_length (has c.lcid w.bearers) c.lcid share held w refl ∙ len)
          (row_apart (has c.lcid w.bearers) c.lcid share l held w refl apart ∙ e) more
          ∙ gives_same (has l w.bearers) s numbers amounts l w.bearers w'.bearers refl
          (stays_by c.lcid share l held w (has c.lcid w.bearers) refl apart)
    ]

abbrev absent : Option ℕ
absent = None

nothing_at : (n l : ℕ) → get_or (replicate n absent) l absent ≡ absent
nothing_at zero l = refl
nothing_at (suc n) zero = refl
nothing_at (suc n) (suc l) = nothing_at n l

row_by : (t : Bool) (e : End) (grant l : ℕ) → has_channel l e.buckets.channels ≡ t → IsSound e.buckets
    → get_or (written e grant).block.numbers l None ≡ given_by e grant l
unfolding written
row_by true e grant l h s =
    let cs = e.buckets.channels in
    rw h (all_row e.sender e.numbers (shares e grant) cs (work e.bearers (nothing_written e.side)) l
    (sound_apart cs s.channels.within s.channels.distinct) refl (nothing_at 11 l) h)
row_by false e grant l h s =
    rw h (others_row e.sender e.numbers (shares e grant) e.buckets.channels (work e.bearers (nothing_written e.side))
    l h ∙ nothing_at 11 l)

pub row_is : (e : End) (grant l : ℕ) → IsSound e.buckets
    → get_or (written e grant).block.numbers l None ≡ given_by e grant l
row_is e grant l s = row_by (has_channel l e.buckets.channels) e grant l refl s

-- ---- through any calls

-- the rows of an end's numbers are what was given
record Notes (e : End) (past : Given) : Type 0 where
  rows : length e.numbers ≡ 8
  noted' : (p l : ℕ) → p < 8 → get_or (get_or e.numbers p []) l None ≡ past p l

none_row : (n p l : ℕ) → get_or (get_or (replicate n (replicate 11 absent)) p []) l absent ≡ absent
none_row zero p l = refl
none_row (suc n) zero l = nothing_at 11 l
none_row (suc n) (suc p) l = none_row n p l

loaded_notes : (tti grant : ℕ) (e : End) (past : Given) → IsSound e.buckets → Notes e past
    → Notes (loaded tti grant e) (with_block (tti % 8) (given_by e grant) past)
unfolding loaded
loaded_notes tti grant e past s k =
    let at = tti % 8 in
    let row = (written e grant).block.numbers in
    record {
      rows = length-set e.numbers at row ∙ k.rows;
      noted' = λ p l lt. elim (cases_eq p at) [
        | inl same ↦
            let test : (p == at) ≡ true = grind (arith, nat_tests) in
            let there : get_or (set e.numbers at row) p [] ≡ row =
            ap (λ (q : ℕ). get_or (set e.numbers at row) q []) same
            ∙ get_or-set_same e.numbers at row [] (omega (arith, k.rows)) in
            rw test (ap (λ (r : List (Option ℕ)). get_or r l None) there ∙ row_is e grant l s)
        | inr apart ↦
            let test : (p == at) ≡ false = grind (arith, nat_tests) in
            rw test (ap (λ (r : List (Option ℕ)). get_or r l None) (get_or-set_other e.numbers at p row [] apart)
            ∙ k.noted' p l lt)
      ];
    }

turn_notes : (v : Visit) (t : Turn) (e : End) (past : Given) → IsSound e.buckets → Notes e past
    → Notes (answered v t (built_by v t.tti t.grant e)) (given_at v t e past)
turn_notes New t e past s k = let m = loaded_notes t.tti t.grant e past s k in
    record { rows = m.rows; noted' = m.noted' }
turn_notes (Resend rv) t e past s k = record { rows = k.rows; noted' = k.noted' }
turn_notes Silent t e past s k = k

visited_notes : (tti : ℕ) (order : Order) (e : End) (past : Given) → Notes e past → Notes (visited tti order e) past
unfolding visited
visited_notes tti order e past k = record { rows = k.rows; noted' = k.noted' }

call_notes : (e : End) (c : Call) (past : Given) → IsSound e.buckets → Notes e past
    → Notes (after e c) (given_after e (doing c) past)
unfolding with_visits with_bearer submitted discarding expired built joined left_cell reset
call_notes e (SetVisits maximum) past s k = record { rows = refl; noted' = λ p l lt. none_row 8 p l }
call_notes e (SetReports reports) past s k = record { rows = k.rows; noted' = k.noted' }
call_notes e (Add c keys) past s k = record { rows = k.rows; noted' = k.noted' }
call_notes e (Submit lcid sdu) past s k = record { rows = k.rows; noted' = k.noted' }
call_notes e (SetDiscard lcid ttis) past s k = record { rows = k.rows; noted' = k.noted' }
call_notes e Tick past s k = record { rows = k.rows; noted' = k.noted' }
call_notes e TickBuckets past s k = record { rows = k.rows; noted' = k.noted' }
call_notes e (Visits t) past s k =
    turn_notes (visit t.tti t.order e) t (visited t.tti t.order e) past (visited_sound t.tti t.order e s)
    (visited_notes t.tti t.order e past k)
call_notes e (Grants tti) past s k = record { rows = k.rows; noted' = k.noted' }
call_notes e (Granted tti good) past s k = record { rows = k.rows; noted' = k.noted' }
call_notes e (Assigned tti ndi good) past s k = record { rows = k.rows; noted' = k.noted' }
call_notes e (Pass tti) past s k = record { rows = k.rows; noted' = k.noted' }
call_notes e (Receive block) past s k = record { rows = k.rows; noted' = k.noted' }
call_notes e (Expire lcid clock) past s k = record { rows = k.rows; noted' = k.noted' }
call_notes e (Move keys) past s k = record { rows = refl; noted' = λ p l lt. none_row 8 p l }

-- all that is kept through calls
record Holds (w : Watched Given) : Type 0 where
  channels : HasSoundChannels w.end
  young : Young w.end.bearers w.end.sender w.end.numbers
  notes : Notes w.end w.past

watch_holds : (cs : List Call) (w : Watched Given) → AreGiven cs → Holds w → Holds (watch given_after cs w)
watch_holds [] w g h = h
watch_holds (c ∷ cs) w g h =
    watch_holds cs (record { end = after w.end c; past = given_after w.end (doing c) w.past }) g.1
    (record {
      channels = call_channels_sound w.end c g.0 h.channels;
      young = call_young w.end c h.young;
      notes = call_notes w.end c w.past h.channels.buckets_are h.notes;
    })

fresh_holds : (side : Side) (maximum : ℕ) (reports : Bool)
    → Holds (record { end = fresh side maximum reports; past = none_given })
unfolding fresh
fresh_holds side maximum reports =
    record {
      channels = fresh_channels_sound side maximum reports;
      young = fresh_young side maximum reports;
      notes = record { rows = refl; noted' = λ p l lt. none_row 8 p l };
    }

holds_none : (w : Watched Given) → Holds w → HoldsNone w
holds_none w h lcid process n block lt held given =
    h.young.young lcid process n lt
    (ap (λ (o : Option (List ℕ)). counted o (get_or (get_or w.end.numbers process []) lcid None)) held
    ∙ h.notes.noted' process lcid lt ∙ given)

pub holds_no_old : (side : Side) (maximum : ℕ) (reports : Bool) (calls : List Call) → AreGiven calls
    → HoldsNone (watched given_after none_given side maximum reports calls)
holds_no_old side maximum reports calls g =
    holds_none (watched given_after none_given side maximum reports calls)
    (watch_holds calls (record { end = fresh side maximum reports; past = none_given }) g
    (fresh_holds side maximum reports))
