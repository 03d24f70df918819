use Rattle.vbr_player.proofs.asking.map.EntriesAsked.ask.Goals as goal

pub returns-in-Insert : goal.returns-in-Insert
returns-in-Insert c = rw c.in-Insert.is (c.insert.result, c.insert.ensures, c.reply_told.ensures)

pub returns-in-Remove : goal.returns-in-Remove
returns-in-Remove c = rw c.in-Remove.is (c.remove.result, c.remove.ensures, c.reply_given.ensures)

pub returns-in-Has : goal.returns-in-Has
returns-in-Has c = rw c.in-Has.is (c.has.result, c.has.ensures, c.reply_told-in-Has.ensures)

pub returns-in-Get : goal.returns-in-Get
returns-in-Get c = rw c.in-Get.is (c.get.result, c.get.ensures, c.reply_given-in-Get.ensures)
