-- Where no gap in the tags is long, few COUNTs lie between the PDUs that RLC hands up.
use Rattle.std.proofs.Common.{◌≡◌, ◌<◌, ℕ, zero, suc, ◌+◌, ◌-◌, ◌*◌, ◌^◌, ◌||◌, Bool, false, List, [], ◌∷◌, ◌++◌, map}
use Rattle.std.proofs.Common.{take, length, Option, Some, None, slice_get, append-nil, length-append, refl, ap, sym}
use Rattle.std.proofs.Common.{subst, ◌∙◌, arith}
use Rattle.std.proofs.lemmas.List.{length-map, map-append}
use Rattle.bearer.specs.declared.flow.Flow.TheVariants.{Um}
use Rattle.bearer.specs.Unacknowledged.State.{State}
use Rattle.law_bearer.specs.AnyBearer.Calls.{Call}
use Rattle.law_bearer.specs.AnyBearer.Stream.{stream}
use Rattle.law_deliver.proofs.AmFlow.Loads.{Load}
use Rattle.rlc_pdu.specs.Pdus.{UmdPdu, IsUmBits}
use Rattle.rlc_um.specs.Joined.{Parts, parts_of, Joined, nothing_joined, with_numbers}
use Rattle.rlc_um.specs.Receiver.{State as Receiver, all_joined}
use Rattle.rlc_um.specs.Sender.{width_of}
use Rattle.law_deliver.specs.UmDelivery.Delivery.{FewBetween}
use Rattle.law_deliver.specs.UmDelivery.Lives.{AreAccepted}
use Rattle.law_deliver.specs.UmFlow.Pair.{BearerEnd}
use Rattle.law_deliver.specs.UmFlow.Runs.{all_sender_steps}
use Rattle.law_rlc.specs.UmPair.Run.{World, fresh, run_um_receiver, joined_below}
use Rattle.law_rlc.specs.UmPair.Send.{Flow as Made, flow, at_first, joined, carried, completed}
use Rattle.law_rlc.specs.UmPair.Which.{nothing_sent, places_below, places_up}
use Rattle.law_rlc.proofs.UmPair.Air.{Made as IsMade, Meets, meets-run, made-by, some-numbers}
use Rattle.law_rlc.proofs.UmPair.Edge.{at-start, finished_all}
use Rattle.law_rlc.proofs.UmPair.Which.{Beside, all_pdus, grows_from}
use Rattle.law_rlc.proofs.UmPair.Whole.{whole}
use Rattle.um_losses.specs.Flow.{Flow, restarts}
use Rattle.um_losses.specs.Laws.{AreAlike, Outline, blanks, blank_slot, blank_joined}
use Rattle.um_losses.specs.Tags.{last_tag}
use Rattle.um_losses.proofs.Alike.{blank-numbers}
use Rattle.law_deliver.proofs.UmGaps.Counting.{Begins, few_given}
use Rattle.law_deliver.proofs.UmGaps.Gaps.{tags_next, tags_long, all_counted_so, long_then, both_false, few}
use Rattle.law_deliver.proofs.UmGaps.Tags.{AllAlike, alike_at, TagsFrom, tags_of}
use Rattle.law_deliver.proofs.UmGaps.Tracking.{made_in, heard_in, Tracks}
use Rattle.law_deliver.proofs.UmGaps.Worlds.{places_alike}

-- ---- PDUs with tags are numbered as those with octets

of_other : (ps qs : List UmdPdu) (k : ℕ) (q : UmdPdu) → AllAlike ps qs → slice_get qs k ≡ Some q
    → (p : UmdPdu) × (slice_get ps k ≡ Some p)
of_other [] [] k q h e = let no : None ≡ Some q = e in absurd cc
of_other [] (y ∷ ys) k q h e = absurd h
of_other (x ∷ xs) [] k q h e = absurd h
of_other (x ∷ xs) (y ∷ ys) zero q h e = (x, refl)
of_other (x ∷ xs) (y ∷ ys) (suc k) q h e = of_other xs ys k q h.1 e

tagged_made : (width : ℕ) (made tm : List UmdPdu) → AllAlike made tm → IsMade made width → IsMade tm width
tagged_made width made tm a h = record {
  wide = h.wide;
  sn_is = λ k q e. let p = of_other made tm k q a e in sym (alike_at made tm k p.0 q a p.1 e).sn ∙ h.sn_is k p.0 p.1;
}

-- ---- and join to as many SDUs

blank_same : (p q : UmdPdu) → AreAlike p q → blank_slot (Some (parts_of p)) ≡ blank_slot (Some (parts_of q))
blank_same p q a =
    ap (λ (n : ℕ). blank_slot (Some (parts_of (record p { fi = n })))) a.fi
    ∙ ap (λ (l : List (List ℕ)). Some (record (parts_of q) { elements = l }))
    (blanks_same p.elements q.elements a.elements)
  where
    blanks_same : (xs ys : List (List ℕ)) → length xs ≡ length ys → blanks xs ≡ blanks ys
    blanks_same [] [] e = refl
    blanks_same [] (y ∷ ys) e = let no : 0 ≡ suc (length ys) = e in absurd cc
    blanks_same (x ∷ xs) [] e = let no : suc (length xs) ≡ 0 = e in absurd cc
    blanks_same (x ∷ xs) (y ∷ ys) e = let less : length xs ≡ length ys = cc in
        ap (λ (l : List (List ℕ)). [] ∷ l) (blanks_same xs ys less)

carried_same : (ps qs : List UmdPdu) → AllAlike ps qs → map blank_slot (carried ps) ≡ map blank_slot (carried qs)
carried_same [] [] h = refl
carried_same [] (q ∷ qs) h = absurd h
carried_same (p ∷ ps) [] h = absurd h
carried_same (p ∷ ps) (q ∷ qs) h =
    ap (λ (s : Option Parts). s ∷ map blank_slot (carried ps)) (blank_same p q h.0)
    ∙ ap (λ (l : List (Option Parts)). blank_slot (Some (parts_of q)) ∷ l) (carried_same ps qs h.1)

joined_many : (ps qs : List UmdPdu) → AllAlike ps qs → length (joined ps).ready ≡ length (joined qs).ready
joined_many ps qs h =
    let same : blank_joined (joined ps) ≡ blank_joined (joined qs) =
    blank-numbers (carried ps) nothing_joined
    ∙ ap (λ (l : List (Option Parts)). with_numbers l nothing_joined) (carried_same ps qs h)
    ∙ sym (blank-numbers (carried qs) nothing_joined) in
    sym (length-map (joined ps).ready (λ (octets : List ℕ). [])) ∙ ap (λ (j : Joined). length j.ready) same
    ∙ length-map (joined qs).ready (λ (octets : List ℕ). [])

front_tags : (tag : ℕ) (xs ys : List (List ℕ)) → TagsFrom tag (xs ++ ys) → TagsFrom tag xs
front_tags tag [] ys h = tt
front_tags tag (x ∷ xs) ys h = (h.0, front_tags (tag + 1) xs ys h.1)

none_yet : Beside nothing_sent nothing_joined nothing_joined
none_yet = record {
  ended = refl;
  going = refl;
  whole' = λ e. absurd cc;
  part = refl;
  told = record { order = omega arith; up = refl };
}

-- ---- what is handed up ends with the tags of its places

module _ (bits reorder pdcp_bits : ℕ) (u : IsUmBits bits) (some : 0 < 2 ^ pdcp_bits) (a : State) (xs : List Call)
    (b : State) (ys : List Call) (n m : BearerEnd) (loads : List Load) (f : Flow) (begins : Begins pdcp_bits a)
    (ok : AreAccepted a xs)
    (h : Tracks bits reorder (2 ^ pdcp_bits) a xs b ys n m loads f) where
  abbrev t : World
  t = run_um_receiver h.calls (fresh (width_of bits) 0)

  abbrev w : World
  w = heard_in bits reorder b ys

  abbrev made : List UmdPdu
  made = made_in bits a xs

  few_made : length (joined h.tm).ready < 2 ^ 64
  few_made =
      let st = h.on.stands in
      let all = (whole bits (all_sender_steps a xs)).sdus in
      let given : (flow (all_sender_steps a xs) (at_first bits)).offered ≡ stream (Um a) xs =
      ap (λ (g : Made). g.offered) st.f_is ∙ st.given_is in
      let waits : List (List ℕ) =
      completed (joined made).part (flow (all_sender_steps a xs) (at_first bits)).sender.waiting.sdus in
      let many : length ((joined made).ready ++ waits) ≡ length (stream (Um a) xs) = ap length (all ∙ given) in
      let parts = length-append (joined made).ready waits in
      let same = joined_many made h.tm h.written.alike in
      let most = few_given pdcp_bits a xs begins ok in
      omega (arith, many, parts, same, most)

  meets : Meets h.tm (width_of bits) t
  meets =
      meets-run h.tm (width_of bits) h.calls (fresh (width_of bits) 0)
      (tagged_made (width_of bits) made h.tm h.written.alike (made-by bits (all_sender_steps a xs) u))
      h.heard.sent'
      (record {
        keeps = at-start (width_of bits) 0 (some-numbers bits u);
        width_is = refl;
        agrees = λ i p e. absurd cc;
      })

  -- in the numbers below one
  tags_below : (edge : ℕ) (sdus : List (List ℕ)) → sdus ≡ (joined_below t.accepted (2 * width_of bits) edge).ready
      → map last_tag sdus ≡ map suc (places_below (width_of bits) w edge made)
  tags_below edge sdus q =
      let k : ℕ = edge - 2 * width_of bits in
      let front : Joined = with_numbers (take k (carried h.tm)) nothing_joined in
      let told = all_pdus k t.accepted (2 * width_of bits) h.tm nothing_sent nothing_joined nothing_joined
      meets.agrees none_yet in
      let more = grows_from k (carried h.tm) nothing_joined in
      let tags : TagsFrom 1 front.ready =
      front_tags 1 front.ready more.rest (subst (TagsFrom 1) more.is h.written.tagged'.ready) in
      let long = ap length more.is ∙ length-append front.ready more.rest in
      let most = few_made in
      ap (map last_tag) (q ∙ told.up)
      ∙ tags_of 0 (places_below (width_of bits) t edge h.tm) front.ready told.order tags
      (omega (arith, long, most))
      ∙ ap (map suc) (sym (places_alike (width_of bits) w t edge made h.tm h.heard.same h.written.alike))

  gone_is : t.gone ≡ (joined_below t.accepted (2 * width_of bits) t.state.window.edge).ready
  gone_is =
      let none : t.state.joined.ready ≡ [] = ap (λ (r : Receiver). r.joined.ready) h.heard.state_is ∙ h.idle in
      sym (append-nil t.gone) ∙ ap (λ (l : List (List ℕ)). t.gone ++ l) (sym none)
      ∙ meets.keeps.rests.stands.sound.joined.ready
      ∙ ap (λ (v : ℕ). (joined_below t.accepted (2 * v) t.state.window.edge).ready) meets.width_is

  pub few_now : f.gaps.long ≡ false → FewBetween pdcp_bits 0 (places_up (width_of bits) w made)
  few_now e =
      let edge : t.state.window.edge ≡ w.state.window.edge =
      ap (λ (o : Outline). o.window.edge) (sym h.heard.same.outline_is) in
      let tags : map last_tag t.gone ≡ map suc (places_up (width_of bits) w made) =
      tags_below t.state.window.edge t.gone gone_is
      ∙ ap (λ (v : ℕ). map suc (places_below (width_of bits) w v made)) edge in
      few pdcp_bits 0 (places_up (width_of bits) w made) some (ap (tags_long (2 ^ pdcp_bits) 0) (sym tags)
      ∙ h.heard.long_is e)

  -- as the life ends
  last_is : t.gone ++ all_joined t.state ≡ (joined_below t.accepted (2 * width_of bits) t.top).ready
  last_is = finished_all (width_of bits) 0 (some-numbers bits u) h.calls
      ∙ ap (λ (v : ℕ). (joined_below t.accepted (2 * v) t.top).ready) meets.width_is

  pub few_to_end : (restarts f).gaps.long ≡ false → FewBetween pdcp_bits 0 (places_below (width_of bits) w w.top made)
  few_to_end e =
      let rest = all_joined f.receiver in
      let counted = all_counted_so rest f.gaps in
      let parts = both_false f.gaps.long (tags_long f.gaps.counts f.gaps.next (map last_tag rest))
      (sym counted.long_is ∙ e) in
      let gone = map last_tag t.gone in
      let here : tags_long (2 ^ pdcp_bits) (tags_next 0 gone) (map last_tag rest) ≡ false =
      ap (λ (v : ℕ). tags_long (2 ^ pdcp_bits) v (map last_tag rest)) (sym h.heard.next_is)
      ∙ ap (λ (v : ℕ). tags_long v f.gaps.next (map last_tag rest)) (sym h.heard.counts_are) ∙ parts.1 in
      let both : tags_long (2 ^ pdcp_bits) 0 (gone ++ map last_tag rest) ≡ false =
      long_then (2 ^ pdcp_bits) 0 gone (map last_tag rest)
      ∙ ap (λ (y : Bool). y || tags_long (2 ^ pdcp_bits) (tags_next 0 gone) (map last_tag rest))
      (h.heard.long_is parts.0) ∙ here in
      let tags : gone ++ map last_tag rest ≡ map suc (places_below (width_of bits) w w.top made) =
      sym (map-append last_tag t.gone rest)
      ∙ ap (λ (r : Receiver). map last_tag (t.gone ++ all_joined r)) (sym h.heard.state_is)
      ∙ tags_below t.top (t.gone ++ all_joined t.state) last_is
      ∙ ap (λ (v : ℕ). map suc (places_below (width_of bits) w v made)) (sym h.heard.same.top_is) in
      few pdcp_bits 0 (places_below (width_of bits) w w.top made) some
      (ap (tags_long (2 ^ pdcp_bits) 0) (sym tags) ∙ both)
