use Rattle.vbr_player.proofs.asking.set.KeysAsked.ask.Goals as goal

pub returns-in-Insert : goal.returns-in-Insert
returns-in-Insert c = (c.insert.result, rw c.in-Insert.is c.insert.ensures, c.reply_told.ensures)

pub returns-in-Remove : goal.returns-in-Remove
returns-in-Remove c = (c.remove.result, rw c.in-Remove.is c.remove.ensures, c.reply_told-in-Remove.ensures)

pub returns-in-Has : goal.returns-in-Has
returns-in-Has c = (c.has.result, rw c.in-Has.is c.has.ensures, c.reply_told-in-Has.ensures)
