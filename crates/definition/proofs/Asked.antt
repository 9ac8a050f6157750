-- What a query returns is what `step` gives: the answer alone.
use mathlib.Core.Path.{◌≡◌, refl}
use Rattle.state.specs.declared.Gate.{Gate}
use Rattle.state.specs.Replies.{nothing_raised, no_signals}
use Rattle.state.specs.View.{view}
use Rattle.answers.specs.Query.{Query, ReplyByIds, plain, approval, access, phones, trust, peer, phone_access, methods, challenge, saved, preview, report, numbered_reply, answer_to}
use Rattle.definition.specs.Gate.{PackedReply, ask, laid_reply, left, says, gives, step, answered}

-- lists in an answer do not change the answer's number and values
numbered_laid : (r : ReplyByIds) → numbered_reply (laid_reply r) ≡ numbered_reply r
numbered_laid (plain a) = refl
numbered_laid (approval a) = refl
numbered_laid (access a) = refl
numbered_laid (phones a ps) = refl
numbered_laid (trust a) = refl
numbered_laid (peer a) = refl
numbered_laid (phone_access a) = refl
numbered_laid (methods a) = refl
numbered_laid (challenge a) = refl
numbered_laid (saved a) = refl
numbered_laid (preview a paired store n) = refl
numbered_laid (report a r) = refl

pub by_query : (g : Gate) (q : Query) (r : PackedReply) → r ≡ laid_reply (answer_to (view g) q) → answered g r ≡ step g (ask q)
unfolding step gives says left view no_signals nothing_raised
by_query g q r e = rw (e, numbered_laid (answer_to (view g) q))
