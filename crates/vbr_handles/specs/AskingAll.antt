-- What is asked of all members of handles at once, and what comes back to them. Only contracts of private functions cite this.
use Rattle.std.specs.Prelude.{◌≡◌, ◌⊎◌, List, map, Option, Some, Result, Ok, Err}
use Rattle.vbr_words.specs.Dimensions.{Dimensions}
use Rattle.vbr_set.specs.members.AllMembers.{AreTooFew, ReportsAllBy}
use Rattle.vbr_set.specs.reports.Closing.{ClosesBy}
use Rattle.vbr_set.specs.reports.EntrySlots.{ClosesWithSlots}
use Rattle.vbr_set.specs.reports.Kinds.{KindOf}
use Rattle.vbr_set.specs.calls.Members.{MemberView as Member}
use Rattle.vbr_set.specs.renewals.RenewingAll.{AreNotAll, HasNoRoom, HasRoom, RenewsAllBy}
use Rattle.vbr_handles.specs.AllHandles.{AreFull, members_by}
use Rattle.vbr_handles.specs.EachOnce.{HasTwice}
use Rattle.vbr_handles.specs.OpeningReserves.{StartWithReserves}
use Rattle.vbr_handles.specs.declared.asking_all.AskRefusal.{AskRefusal}
use Rattle.vbr_handles.specs.declared.asking_all.AskRefusal.TheVariants as asking
use Rattle.vbr_handles.specs.declared.asking_all.Question.{Question}
use Rattle.vbr_handles.specs.declared.asking_all.Question.TheVariants as question
use Rattle.vbr_handles.specs.declared.asking_all.Answer.{Answer}
use Rattle.vbr_handles.specs.declared.asking_all.Answer.TheVariants as answering

-- there are fewer members than a report wants, or not as many as a renewal does
abbrev pub Lack : Question → List Member → Type 0
Lack question.Report members = AreTooFew members
Lack question.ReportSlots members = AreTooFew members
Lack (question.Renew shape) members = AreNotAll members

module _ {Item R : Type 0} (kind : KindOf Item R) where
  -- members are renewed, and the fresh ones then took their reserves
  pub record RenewsWithReserves (members : List Member) (shape : Dimensions) (back : List Member) : Type 0 where
    pub fresh : List Member
    pub renews : RenewsAllBy kind members shape fresh
    pub reserves : StartWithReserves fresh back

  -- there is room for what they have, if they are to be renewed
  abbrev pub LacksNoRoom : Question → List Member → Type 0
  LacksNoRoom question.Report members = Unit {0}
  LacksNoRoom question.ReportSlots members = Unit {0}
  LacksNoRoom (question.Renew shape) members = HasRoom kind members shape.slots

  -- members that are asked for their report come back as they were, with it or with why there is none; those that are to be renewed are, or come back as they were with why not
  abbrev pub AnswersQuestion : Question → List Member → List Member → Answer R → Type 0
  AnswersQuestion question.Report members back (answering.Report report) = (back ≡ members) × ReportsAllBy (ClosesBy kind) members report
  AnswersQuestion question.Report members back answering.Memory = back ≡ members
  AnswersQuestion question.Report members back _ = ⊥
  AnswersQuestion question.ReportSlots members back (answering.ReportSlots told) = (back ≡ members) × ReportsAllBy (ClosesWithSlots kind) members told
  AnswersQuestion question.ReportSlots members back answering.Memory = back ≡ members
  AnswersQuestion question.ReportSlots members back _ = ⊥
  AnswersQuestion (question.Renew shape) members back answering.Renewed = RenewsWithReserves members shape back
  AnswersQuestion (question.Renew shape) members back answering.Room = (back ≡ members) × HasNoRoom kind members shape.slots
  AnswersQuestion (question.Renew shape) members back answering.Memory = (back ≡ members) × HasRoom kind members shape.slots
  AnswersQuestion (question.Renew shape) members back _ = ⊥

  module _ {H : Type 0} (member : H → Option Member) (asked : Question) where
    -- the members of handles, of which none lack and no two have the same pass, were asked, and each handle has the one that came back for it
    pub record AsksThem (before after : List H) (answer : Answer R) : Type 0 where
      pub enough : ¬ (Lack asked (members_by member before))
      pub once : ¬ (HasTwice (members_by member before))
      pub came : List Member
      pub tells : AnswersQuestion asked (members_by member before) came answer
      pub full : map member after ≡ map Some came

    -- why they were asked nothing, by the first test that failed
    abbrev pub IsWhyUnasked : List H → AskRefusal → Type 0
    IsWhyUnasked handles asking.Empty = ¬ (AreFull member handles)
    IsWhyUnasked handles asking.Missing = AreFull member handles × (Lack asked (members_by member handles) ⊎ HasTwice (members_by member handles))
    IsWhyUnasked handles asking.Mixed = AreFull member handles × ¬ (Lack asked (members_by member handles))
    IsWhyUnasked handles asking.Memory = AreFull member handles × ¬ (Lack asked (members_by member handles)) × ¬ (HasTwice (members_by member handles)) × LacksNoRoom asked (members_by member handles)

    -- the members of handles were asked; otherwise the handles are as they were
    abbrev pub AsksAllOf : List H → List H → Result (Answer R) AskRefusal → Type 0
    AsksAllOf before after (Ok answer) = AreFull member before × AsksThem before after answer
    AsksAllOf before after (Err refusal) = (after ≡ before) × IsWhyUnasked before refusal
