use Rattle.ags_listing.proofs.writing.+send_further.Given as goal

abbrev pub decreases-send_further : goal.decreases-send_further
decreases-send_further g l = l.count
