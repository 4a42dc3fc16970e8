use Rattle.palm_agenda.proofs.cited.Keeping.{mark_told, place_of_marks}
use Rattle.palm_agenda.proofs.agenda.Agenda.mark.Goals as goal

pub bounds-marks-place : goal.bounds-marks-place
bounds-marks-place c = place_of_marks c.args.self.now.connected c.args.taken.now.cid c.args.place c.requires.within c.marks.result.now c.marks.ensures.whole

pub returns : goal.returns
returns c =
    mark_told c.args.self.now.connected c.args.taken.now.cid c.args.place c.marks.result.now c.marks.ensures.marks
    (place_of_marks c.args.self.now.connected c.args.taken.now.cid c.args.place c.requires.within c.marks.result.now c.marks.ensures.whole) c.index-marks-place.result c.index-marks-place.is
