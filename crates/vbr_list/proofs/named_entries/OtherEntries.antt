-- Where a search found another node than an entry's, or none, the entry wasn't in the map at a moment.
use Rattle.vbr_list.proofs.Names.{◌≡◌, ℕ, Bool, true, false, Option, Some, None, refl, sym, subst, ap, ◌∙◌, List, At}
use Rattle.vbr_list.proofs.Names.{begins_run, CurStood, Entry, Event, Found, Held, incarnations_after, IsEnd, IsEntry}
use Rattle.vbr_list.proofs.Names.{IsFound, IsNodeOf, IsRun, IsSame, IsStart, KeyAt, keys_differ, knows, Moment}
use Rattle.vbr_list.proofs.Names.{moment_after, opening_keys, Quiet, run_agrees, set_after, Slot, Start, Trace}
use Rattle.vbr_list.proofs.Names.{WasOther, WasSo, world_after}
use Rattle.vbr_list.proofs.traversals.Disturbing.{run_at}
use Rattle.vbr_list.proofs.traversals.Moments.{key_known, was_so}
use Rattle.vbr_list.proofs.named_entries.SeenEntries.{was_there}

-- what is linked
module _ (start : Start) (passes : ℕ) (is : IsStart start) (moment : List Event) (ok : IsRun start passes moment) where
  -- the key of an entry is in the set
  entry_present : (s birth key node : ℕ) → IsEntry start moment s birth key node →
      set_after (opening_keys start) (world_after start moment).calls key ≡ true
  entry_present s birth key node x =
      let g = run_agrees start passes moment is ok in
      rw g.calls (subst (λ k. set_after (opening_keys start) (incarnations_after start moment).calls k ≡ true) x.key_is
      (g.tells.there node x.linked))

  -- and it has no other entry
  one_entry : (s birth t born key node other : ℕ) → IsEntry start moment s birth key node →
      IsEntry start moment t born key other → (s ≡ t) × (birth ≡ born)
  one_entry s birth t born key node other x y =
      let g = run_agrees start passes moment is ok in
      let same : node ≡ other = keys_differ g.sound node other x.linked y.linked (x.key_is ∙ sym y.key_is) in
      let here = (g.sound.slots.last_born s node x.last).1 in
      let there = (g.sound.slots.last_born t other y.last).1 in (
        sym here ∙ ap (incarnations_after start moment).slot same ∙ there,
        sym x.birth_is ∙ ap (incarnations_after start moment).birth same ∙ y.birth_is,
      )

-- the node that was found was the key's only one, and where none was found, the key had none
pub was_other : {p q : Trace} {key : ℕ} {found : Found} (start : IsStart p.start) (same : IsSame p q) →
    IsFound p q key found → (entry : Entry) → (IsNodeOf found entry → ⊥) → WasOther p q key entry
was_other {p} {q} {key} {found} start same x entry differs =
    go found.present found.cur refl refl x.locates.end x.cur_stood
  where
    run_then : {moment : List Event} → Moment p q moment → IsRun p.start p.passes moment
    run_then {moment} within =
        begins_run p.start p.passes moment q.seen within.to (run_at p q same within.is_run)

    go : (present : Bool) (cur : Option Held) → found.present ≡ present → found.cur ≡ cur →
        IsEnd (knows q) key found.pred cur present → CurStood p q cur → WasOther p q key entry
    go false cur absent is end stood =
        let w = subst (WasSo p q key) absent (was_so key found start same x) in
        record {
          moment = w.moment;
          within = w.within;
          none = λ node e.
              let there = entry_present p.start p.passes start w.moment (run_then w.within) entry.slot entry.birth key
              node e in
              let z : true ≡ false = sym there ∙ w.was in absurd (cc);
        }
    go true None present is end stood = absurd (let z : true ≡ false = end.1 in cc)
    go true (Some cur) present is end stood =
        let K : At → Type 0 = λ a. KeyAt (knows q) a key in
        let w = was_there cur start same (record { known = end.held; stood = stood }) end.unmarked end.slot key
        end.place (subst K end.place (key_known (knows q) key found.pred cur end)) 0 in
        record {
          moment = w.moment;
          within = w.within;
          none = λ node e.
              let d = one_entry p.start p.passes start w.moment (run_then w.within) end.slot cur.birth entry.slot
              entry.birth key w.named.node node w.named.is e in
              differs (record {
                present = present;
                node = cur;
                cur = is;
                place = end.place ∙ ap Slot d.0;
                birth = d.1;
              });
        }

-- after what made no call
pub other_since : {p q r : Trace} {key : ℕ} {entry : Entry} → Quiet p q → WasOther q r key entry →
    WasOther p r key entry
other_since {key = key} {entry = entry} quiet x = record {
  moment = x.moment;
  within = moment_after quiet.seen x.within;
  none = λ node e.
      let P : Start → Type 0 = λ d. IsEntry d x.moment entry.slot entry.birth key node in
      x.none node (subst P (sym quiet.same.start) e);
}
