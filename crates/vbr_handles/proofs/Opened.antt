-- There are as many handles as members.
use Rattle.vbr_handles.proofs.Names.{◌≡◌, ℕ, zero, suc, List, [], ◌∷◌, ◌++◌, map, length, append_assoc, sym, refl, ap}
use Rattle.vbr_handles.proofs.Names.{◌∙◌, subst, Option, Some, length-map, length_all_zip, PassView, TableView}
use Rattle.vbr_handles.proofs.Names.{new_passes, as_member, new_members, StartWithReserves, StartsWithReserve, Owner}
use Rattle.vbr_handles.proofs.Names.{map-append, AreNew, Member}
use Rattle.vbr_machine.specs.Start.{Start}
use Rattle.vbr_handles.specs.Opening.{AreOpened}

pub new_count : (set : TableView) (who n : ℕ) → length (new_passes set who n) ≡ n
new_count set who zero = refl
new_count set who (suc n) = ap suc (new_count set (suc who) n)

pub as_many : (start : Start) (count : ℕ) (members came : List Member) (opened : List (Owner Member)) →
    AreNew start count members → StartWithReserves members came → map (λ h. h.member) opened ≡ map Some came →
    length opened ≡ count
as_many start count members came opened new reserves same =
    let mk : PassView → Member = λ p. as_member new.set p in
    sym (length-map opened (λ (h : Owner Member). h.member))
    ∙ ap (λ (ms : List (Option Member)). length ms) same
    ∙ length-map came Some
    ∙ sym (length_all_zip StartsWithReserve members came reserves)
    ∙ ap (λ (ms : List Member). length ms) new.are
    ∙ length-map (new_passes new.set 0 count) mk ∙ new_count new.set 0 count

-- handles that have owners of fresh members which took their reserves
pub opened_by : {H : Type 0} (member : H → Option Member) (start : Start) (count : ℕ) (handles : List H)
    (members came : List Member) (owners : List (Owner Member)) → length handles ≡ count →
    AreNew start count members → StartWithReserves members came → map (λ o. o.member) owners ≡ map Some came →
    map member handles ≡ map (λ o. o.member) owners → AreOpened member start handles
opened_by member start count handles members came owners long new reserves owned full = record {
  set = new.set;
  shaped = new.shaped;
  counted = new.counted ∙ sym long;
  came = came;
  reserves = subst (λ (ms : List Member). StartWithReserves ms came)
      (new.are ∙ ap (new_members new.set) (sym long)) reserves;
  members = full ∙ owned;
}

-- one more member has an owner
pub one_more_owned : (owners owners' : List (Owner Member)) (owner : Owner Member) (m : Member)
    (left rest : List Member) (whole : List (Option Member)) → owners' ≡ owners ++ owner ∷ [] →
    left ≡ m ∷ rest → owner.member ≡ Some m
    → map (λ o. o.member) owners ++ map Some left ≡ whole → map (λ o. o.member) owners' ++ map Some rest ≡ whole
one_more_owned owners owners' owner m left rest whole more split is so_far =
    let f : Owner Member → Option Member = λ o. o.member in
    ap (λ (os : List (Owner Member)). map f os ++ map Some rest) more
    ∙ ap (λ (ms : List (Option Member)). ms ++ map Some rest) (map-append f owners (owner ∷ []))
    ∙ append_assoc (map f owners) (f owner ∷ []) (map Some rest)
    ∙ ap (λ (o : Option Member). map f owners ++ o ∷ map Some rest) is
    ∙ sym (ap (λ (ms : List Member). map f owners ++ map Some ms) split)
    ∙ so_far

-- and they stay so where their openings alone change
pub still_opened : {H : Type 0} (member : H → Option Member) (start : Start) (handles after : List H) →
    map member after ≡ map member handles → AreOpened member start handles → AreOpened member start after
still_opened member start handles after same opened =
    let long : length after ≡ length handles =
    sym (length-map after member) ∙ ap (λ (os : List (Option Member)). length os) same ∙ length-map handles member
    in
    record {
      set = opened.set;
      shaped = opened.shaped;
      counted = opened.counted ∙ sym long;
      came = opened.came;
      reserves = subst (λ (n : ℕ). StartWithReserves (new_members opened.set n) opened.came) (sym long) opened.reserves;
      members = same ∙ opened.members;
    }
