use Rattle.std.proofs.Common.{◌≡◌, ◌++◌, take}
use Rattle.vbr_transcript.specs.Layout.{replies_text}
use Rattle.vbr_transcript.proofs.printing.push_replies.Given as goal

-- the lines of the replies so far are written
abbrev pub invariant-loop-reply : goal.invariant-loop-reply
invariant-loop-reply l = l.text.items ≡ l.fn.text.items ++ replies_text (take l.reply-index l.replies)
