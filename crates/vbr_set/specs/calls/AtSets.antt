-- A caller at its set: what it is, and what its calls leave of it.
use Rattle.std.specs.Prelude.{◌≡◌, ℕ}
use Rattle.vbr_words.specs.declared.nodes.Nodes.{Ghosts}
use Rattle.vbr_set.specs.declared.at_set.AtSet.{AtSet}
use Rattle.vbr_set.specs.calls.Members.{CallerView, MemberView, as_caller, as_member}

-- the pass, as a member of the set
abbrev pub member_at : {N : Type 0} {kind : Ghosts N} → AtSet N kind → MemberView
member_at c = as_member c.set.now c.pass.now

-- the pass, as the maker of a call
abbrev pub caller_at : {N : Type 0} {kind : Ghosts N} → AtSet N kind → CallerView
caller_at c = as_caller c.set.now c.pass.now

-- the pass as a call left it, as a member of the set
abbrev pub member_after : {N : Type 0} {kind : Ghosts N} → AtSet N kind → AtSet N kind → MemberView
member_after c d = as_member c.set.now d.pass.now

-- the pass as a call left it, as the maker of the next call
abbrev pub caller_after : {N : Type 0} {kind : Ghosts N} → AtSet N kind → AtSet N kind → CallerView
caller_after c d = as_caller c.set.now d.pass.now

-- it is the same pass at the same set
pub record IsSameSet {N : Type 0} {kind : Ghosts N} (c d : AtSet N kind) : Type 0 where
  pub pass : d.pass.ghost_name ≡ c.pass.ghost_name
  pub set : d.set ≡ c.set

-- it looks a key up, which is such a call of the pass
pub record LooksUpAt {N A : Type 0} {kind : Ghosts N} (Calls : MemberView → MemberView → ℕ → ℕ → A → Type 0) (c d : AtSet N kind) (key budget : ℕ) (answer : A) : Type 0 where
  pub same : IsSameSet c d
  pub call : Calls (member_at c) (member_after c d) key budget answer
