-- Members that were asked come back to their handles.
use Rattle.vbr_handles.proofs.Names.{◌≡◌, ℕ, ◌+◌, ◌<◌, ◌≤◌, ◌≢◌, false, List, [], ◌∷◌, ◌++◌, length, map, drop, refl}
use Rattle.vbr_handles.proofs.Names.{sym, ap, ◌∙◌, subst, arith, Bool, Result, Ok, Err, IfOk, IfSome, IsSome, Option}
use Rattle.vbr_handles.proofs.Names.{None, Some, slice_index_or, slice_set, pos, ◌<ℤ◌, ◌⊎◌, inl, inr, false≢true}
use Rattle.vbr_handles.proofs.Names.{length-map, All-head, All-rest, All-same, All-tail, length_all_zip, PassView}
use Rattle.vbr_handles.proofs.Names.{TableView, new_passes, as_member, new_members, added_balances, AreFull, joined}
use Rattle.vbr_handles.proofs.Names.{members_by, HasTwice, Lack, StartWithReserves, StartsWithReserve, drop_more}
use Rattle.vbr_handles.proofs.Names.{drop-set-lt, Member, AreEnoughOnce, ReportsAllOf, StaySo, AnswersQuestion}
use Rattle.vbr_handles.proofs.Names.{AsksAllOf, RenewsWithReserves, Listing, with_slots}
use Rattle.vbr_words.specs.Dimensions.{Dimensions, IsShape}
use Rattle.vbr_machine.specs.Start.{start_with}
use Rattle.vbr_set.specs.reports.Kinds.{KindOf}
use Rattle.vbr_set.specs.members.AllMembers.{AreTooFew, ReportsAllBy}
use Rattle.vbr_set.specs.reports.EntrySlots.{ClosesWithSlots, HasEntry}
use Rattle.vbr_set.specs.renewals.RenewingAll.{AreNotAll}
use Rattle.vbr_set.specs.declared.report_with_slots.ReportWithSlots.{ReportWithSlots}
use Rattle.vbr_handles.specs.declared.asking_all.Answer.{Answer}
use Rattle.vbr_handles.specs.declared.asking_all.Question.{Question}
use Rattle.vbr_handles.specs.Opening.{listed_start, spread_shape}
use Rattle.vbr_handles.specs.RenewingAll.{RenewsTo}
use Rattle.vbr_handles.specs.declared.closing_all.CloseAllRefusal.{CloseAllRefusal}
use Rattle.vbr_handles.specs.declared.opening.ShapeNumbers.{ShapeNumbers}
use Rattle.vbr_handles.proofs.AllHandles.{moved}
use Rattle.vbr_handles.proofs.Opened.{new_count, still_opened}
use Rattle.vbr_handles.specs.declared.asking_all.Answer.TheVariants as answering
use Rattle.vbr_handles.specs.declared.asking_all.Question.TheVariants as question

module _ {H : Type 0} (member : H → Option Member) where
  -- one more member is taken out
  pub one_out : (ms ms' whole : List Member) (m : Member) (handles : List H) (i : ℕ) (d h : H) → i < length handles →
      member (slice_index_or handles i d) ≡ Some m → ms' ≡ ms ++ m ∷ [] →
      ms ++ members_by member (drop i handles) ≡ whole
      → ms' ++ members_by member (drop (i + 1) (slice_set handles i h)) ≡ whole
  one_out ms ms' whole m handles i d h within is more so_far =
      ap (λ (hs : List H). ms' ++ members_by member hs) (drop-set-lt (i + 1) handles i h (omega arith))
      ∙ moved member ms ms' m (slice_index_or handles i d) (drop (i + 1) handles) (drop i handles) more
      (drop_more handles i d within) is
      ∙ so_far

  -- and the others are still full
  pub still_full : (handles : List H) (i : ℕ) (d h : H) → i < length handles → AreFull member (drop i handles) →
      AreFull member (drop (i + 1) (slice_set handles i h))
  still_full handles i d h within full =
      subst (AreFull member) (sym (drop-set-lt (i + 1) handles i h (omega arith)))
      (All-rest (λ (h : H). IsSome (member h)) (slice_index_or handles i d) (drop (i + 1) handles) (drop i handles)
      (drop_more handles i d within) full)

  pub here_full : (handles : List H) (i : ℕ) (d : H) → i < length handles → AreFull member (drop i handles) →
      IsSome (member (slice_index_or handles i d))
  here_full handles i d within full =
      All-head (λ (h : H). IsSome (member h)) (slice_index_or handles i d) (drop (i + 1) handles)
      (All-same (λ (h : H). IsSome (member h)) _ (drop i handles) (sym (drop_more handles i d within)) full)

-- what lacks for a report, with slots or without
module _ (asked : Question) (members : List Member) where
  pub lacks_few : (asked ≡ question.Report) ⊎ (asked ≡ question.ReportSlots) → AreTooFew members → Lack asked members
  lacks_few (inl is) few = subst (λ (q : Question). Lack q members) (sym is) few
  lacks_few (inr is) few = subst (λ (q : Question). Lack q members) (sym is) few

  pub few_lack : (asked ≡ question.Report) ⊎ (asked ≡ question.ReportSlots) → Lack asked members → AreTooFew members
  few_lack (inl is) lack = subst (λ (q : Question). Lack q members) is lack
  few_lack (inr is) lack = subst (λ (q : Question). Lack q members) is lack

-- a report has as many slots as it lists keys or entries
pub as_many_slots : {Item R I : Type 0} (kind : KindOf Item R) (L : Listing R I) (members : List Member)
    (told : ReportWithSlots R) (key : I → ℕ) →
    L.keys (L.items told.report) ≡ kind.keys (kind.contents told.report).listed.items →
    L.keys (L.items told.report) ≡ map key (L.items told.report) → ReportsAllBy (ClosesWithSlots kind) members told →
    length told.slots.items ≡ length (L.items told.report)
as_many_slots kind L members told key same keys all =
    let by = all.closes in
    length_all_zip (HasEntry all.set.start by.closes.run) told.slots.items
    (kind.keys (kind.contents told.report).listed.items) by.slots
    ∙ ap (λ (ks : List ℕ). length ks) (sym same ∙ keys)
    ∙ length-map (L.items told.report) key

-- so its slots have room where what it lists has
pub slots_fit : {Item R I H : Type 0} (kind : KindOf Item R) (L : Listing R I) (member : H → Option Member)
    (before after : List H) (room n : ℕ) (answer : Result (ReportWithSlots R) (CloseAllRefusal (ReportWithSlots R)))
    (key : I → ℕ) →
    ((report : R) → L.keys (L.items report) ≡ kind.keys (kind.contents report).listed.items) →
    ((items : List I) → L.keys items ≡ map key items) → n ≡ room →
    ReportsAllOf member (ClosesWithSlots kind) (with_slots L) before after room answer →
    IfOk answer (λ told. length told.slots.items ≤ n)
slots_fit kind L member before after room n (Ok told) key same keys wide (stay, enough, all, fits) =
    let many : length told.slots.items ≡ length (L.items told.report) =
    as_many_slots kind L (members_by member before) told key (same told.report) (keys (L.items told.report)) all in
    omega (arith, many, fits, wide)
slots_fit kind L member before after room n (Err refusal) key same keys wide told = tt

-- as many members come back renewed
pub as_many_renewed : {Item R : Type 0} (kind : KindOf Item R) (members back : List Member) (shape : Dimensions) →
    RenewsWithReserves kind members shape back → length back ≡ length members
as_many_renewed kind members back shape r =
    let new = r.renews.new in
    sym (length_all_zip StartsWithReserve r.fresh back r.reserves)
    ∙ ap (λ (ms : List Member). length ms) new.are
    ∙ length-map (new_passes new.set 0 (length members)) (λ (pass : PassView). as_member new.set pass)
    ∙ new_count new.set 0 (length members)

-- numbers of which a shape was made are those of one, and it has as many slots
module _ (numbers : ShapeNumbers) (shape : Dimensions) (spread : shape ≡ spread_shape numbers false) where
  pub is_of_shape : (values : Bool) → IsShape shape → IsShape (spread_shape numbers values)
  is_of_shape values is =
      let bare : IsShape (spread_shape numbers false) = subst IsShape spread is in
      record {
        some_slot = bare.some_slot;
        slots = bare.slots;
        some_bucket = bare.some_bucket;
        buckets = bare.buckets;
        some_epoch = bare.some_epoch;
        last_epoch = bare.last_epoch;
        room = bare.room;
      }

  pub of_as_many_slots : (P : ℕ → Type 0) → P shape.slots → P numbers.slots
  of_as_many_slots P is = subst P (ap (λ (d : Dimensions). d.slots) spread) is

module _ {H : Type 0} (member : H → Option Member) where
  -- handles that are full have just their members
  all_members : (handles : List H) → AreFull member handles → map Some (members_by member handles) ≡ map member handles
  all_members [] full = refl
  all_members (h ∷ hs) full =
      go (all_members hs (All-tail (λ (h : H). IsSome (member h)) h hs full)) (member h) refl
      (All-head (λ (h : H). IsSome (member h)) h hs full)
    where
      go : map Some (members_by member hs) ≡ map member hs → (o : Option Member) → member h ≡ o → IsSome (member h) →
          map Some (members_by member (h ∷ hs)) ≡ map member (h ∷ hs)
      go rest None is some = absurd (false≢true (subst (λ (o : Option Member). IsSome o) is some))
      go rest (Some m) is some =
          ap (λ (o : Option Member). map Some (joined o (members_by member hs))) is
          ∙ ap (λ (ms : List (Option Member)). Some m ∷ ms) rest
          ∙ ap (λ (o : Option Member). o ∷ map member hs) (sym is)

  -- what full handles count: the first has the first member, and there are as many members
  pub record Counted (passes : ℕ) (handles : List H) : Type 0 where
    pub first : Member
    pub others : List Member
    pub are : members_by member handles ≡ first ∷ others
    pub many : length handles ≡ length (first ∷ others)
    pub opened : passes ≡ first.set.passes

  pub counted : (passes : ℕ) (handles : List H) (d : H) → 0 < length handles → AreFull member handles →
      IfSome (member (slice_index_or handles 0 d)) (λ m. passes ≡ m.set.passes) → Counted passes handles
  counted passes handles d within full = go (member first) refl (here_full member handles 0 d within full)
    where
      first : H
      first = slice_index_or handles 0 d

      others : List H
      others = drop 1 handles

      split : handles ≡ first ∷ others
      split = drop_more handles 0 d within

      many : length handles ≡ length (members_by member handles)
      many = sym (length-map handles member)
          ∙ sym (ap (λ (os : List (Option Member)). length os) (all_members handles full))
          ∙ length-map (members_by member handles) Some

      go : (o : Option Member) → member first ≡ o → IsSome o → IfSome o (λ m. passes ≡ m.set.passes) →
          Counted passes handles
      go None is some told = absurd (false≢true some)
      go (Some m) is some told =
          let are : members_by member handles ≡ m ∷ members_by member others =
          ap (members_by member) split ∙ ap (λ (o : Option Member). joined o (members_by member others)) is in
          record {
            first = m;
            others = members_by member others;
            are = are;
            many = many ∙ ap (λ (ms : List Member). length ms) are;
            opened = told;
          }

  -- so they are fewer than a report wants, or not, and not as many as a renewal does, or just as many
  pub too_few : (passes : ℕ) (handles : List H) → Counted passes handles → length handles < passes →
      AreTooFew (members_by member handles)
  too_few passes handles c less =
      let many = c.many in let opened = c.opened in subst AreTooFew (sym c.are) (omega (arith, less, many, opened))

  pub enough : (passes : ℕ) (handles : List H) → Counted passes handles → passes ≤ length handles →
      ¬ (AreTooFew (members_by member handles))
  enough passes handles c most few =
      let many = c.many in
      let opened = c.opened in
      let less : length (c.first ∷ c.others) < c.first.set.passes = subst AreTooFew c.are few in
      omega (arith, less, many, opened, most)

  pub not_all : (passes : ℕ) (handles : List H) → Counted passes handles → length handles ≢ passes →
      AreNotAll (members_by member handles)
  not_all passes handles c differ =
      subst AreNotAll (sym c.are)
      (λ (same : length (c.first ∷ c.others) ≡ c.first.set.passes). differ (c.many ∙ same ∙ sym c.opened))

  pub just_all : (passes : ℕ) (handles : List H) → Counted passes handles → length handles ≡ passes →
      ¬ (AreNotAll (members_by member handles))
  just_all passes handles c same not = subst AreNotAll c.are not (sym c.many ∙ same ∙ c.opened)

  -- so they stay as they were where their members come back
  pub stays : (before after : List H) (came : List Member) → AreFull member before → came ≡ members_by member before →
      map member after ≡ map Some came → StaySo member before after
  stays before after came full same put = put ∙ ap (map Some) same ∙ all_members before full

  -- and all of them are there, each once
  pub told_by_all : (before after : List H) (came : List Member) → AreFull member before →
      ¬ (AreTooFew (members_by member before)) → ¬ (HasTwice (members_by member before)) →
      came ≡ members_by member before → map member after ≡ map Some came →
      StaySo member before after × AreEnoughOnce member before
  told_by_all before after came full enough once same put =
      (stays before after came full same put, ((full, enough), once))

  -- so they were asked where their members came back for them; each test on the way left the handles as they were
  pub asked_all : {Item R : Type 0} (kind : KindOf Item R) (asked : Question)
      (before full few beside once after : List H) (members came : List Member) (answer : Answer R) →
      AreFull member before → full ≡ before → few ≡ full → beside ≡ few → once ≡ beside →
      ¬ (Lack asked (members_by member full)) → ¬ (HasTwice (members_by member beside)) →
      members ≡ members_by member once →
      AnswersQuestion kind asked members came answer → map member after ≡ map Some came →
      AsksAllOf kind member asked before after (Ok answer)
  asked_all kind asked before full few beside once after members came answer is_full same same' same'' same''' lack
      twice are tells put = (
        is_full,
        record {
          enough = subst (λ (hs : List H). ¬ (Lack asked (members_by member hs))) same lack;
          once = subst (λ (hs : List H). ¬ (HasTwice (members_by member hs))) (same'' ∙ same' ∙ same) twice;
          came = came;
          tells = subst (λ (ms : List Member). AnswersQuestion kind asked ms came answer)
              (are ∙ ap (members_by member) (same''' ∙ same'' ∙ same' ∙ same)) tells;
          full = put;
        },
      )

  -- where there is no memory to ask, the balances may tell that there is no room
  pub tells_no_room : {Item R : Type 0} (kind : KindOf Item R) (asked : Question) (shape : Dimensions)
      (before after : List H) → asked ≡ question.Renew shape → AreFull member before →
      ¬ (Lack asked (members_by member before)) → ¬ (HasTwice (members_by member before)) → after ≡ before
      → pos shape.slots <ℤ added_balances (members_by member before) →
      AsksAllOf kind member asked before after (Ok answering.Room)
  tells_no_room kind asked shape before after is full lack once same above =
      let enough : ¬ (Lack (question.Renew shape) (members_by member before)) =
      subst (λ (q : Question). ¬ (Lack q (members_by member before))) is lack in
      subst (λ (q : Question). AsksAllOf kind member q before after (Ok answering.Room)) (sym is) (
        full,
        record {
          enough = enough;
          once = once;
          came = members_by member before;
          tells = (refl, inr above);
          full = ap (map member) same ∙ sym (all_members before full);
        },
      )

  -- and are opened where fresh members come with their reserves
  pub renewed : {Item R I : Type 0} (kind : KindOf Item R) (L : Listing R I) (members : List Member)
      (numbers : ShapeNumbers) (shape : Dimensions) (after : List H) (came : List Member)
      → ((shape : Dimensions) (report : R) →
      kind.start shape (kind.contents report).listed.items
      ≡ start_with (record shape { values = L.values }) (L.keys (L.items report)) (L.payloads (L.items report)))
      → shape ≡ spread_shape numbers false → map member after ≡ map Some came
      → RenewsWithReserves kind members shape came →
      RenewsTo kind L member members numbers after
  renewed kind L members numbers shape after came restarts spread full r =
      let new = r.renews.new in
      let set : TableView = new.set in
      let count : length after ≡ length members =
      sym (length-map after member)
      ∙ ap (λ (os : List (Option Member)). length os) full
      ∙ length-map came Some
      ∙ as_many_renewed kind members came shape r
      in
      record {
        report = r.renews.report;
        reports = r.renews.reports;
        opened = record {
          set = set;
          shaped = new.shaped ∙ restarts shape r.renews.report
              ∙ ap (λ (d : Dimensions).
              start_with (record d { values = L.values }) (L.keys (L.items r.renews.report))
              (L.payloads (L.items r.renews.report)))
              spread;
          counted = new.counted ∙ sym count;
          came = came;
          reserves = subst (λ (ms : List Member). StartWithReserves ms came)
              (new.are ∙ ap (new_members set) (sym count)) r.reserves;
          members = full;
        };
      }

  -- and stay so where their openings alone change
  pub still_renewed : {Item R I : Type 0} (kind : KindOf Item R) (L : Listing R I) (members : List Member)
      (numbers : ShapeNumbers) (handles after : List H) → map member after ≡ map member handles →
      RenewsTo kind L member members numbers handles → RenewsTo kind L member members numbers after
  still_renewed kind L members numbers handles after same r = record {
    report = r.report;
    reports = r.reports;
    opened = still_opened member (listed_start L numbers (L.items r.report)) handles after same r.opened;
  }
