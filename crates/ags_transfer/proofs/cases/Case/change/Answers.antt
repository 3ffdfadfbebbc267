use Rattle.ags_transfer.proofs.cases.Case.change.Goals as goal

pub returns-in-Abs : goal.returns-in-Abs
returns-in-Abs g c = rw c.in-Abs.is (c.abs.ensures c.args.e c.args.y)

pub returns-in-Add : goal.returns-in-Add
returns-in-Add g c = rw c.in-Add.is (c.add.ensures c.args.y)

pub returns-in-Adz : goal.returns-in-Adz
returns-in-Adz g c = rw c.in-Adz.is (c.adz.ensures c.args.y)

pub returns-in-Als : goal.returns-in-Als
returns-in-Als g c = rw c.in-Als.is (c.als.ensures c.args.e)

pub returns-in-Axt : goal.returns-in-Axt
returns-in-Axt g c = rw c.in-Axt.is (c.axt.ensures c.args.e)

pub returns-in-Cla : goal.returns-in-Cla
returns-in-Cla g c = rw c.in-Cla.is (c.cla.ensures c.args.y)

pub returns-in-Clz : goal.returns-in-Clz
returns-in-Clz g c = rw c.in-Clz.is (c.clz.ensures c.args.y)

pub returns-in-Com : goal.returns-in-Com
returns-in-Com g c = rw c.in-Com.is (c.com.ensures c.args.e c.args.y)

pub returns-in-Dly : goal.returns-in-Dly
returns-in-Dly g c = rw c.in-Dly.is (c.dly.ensures c.args.e)

pub returns-in-Dvp : goal.returns-in-Dvp
returns-in-Dvp g c = rw c.in-Dvp.is (c.dvp.ensures c.args.y)

pub returns-in-Inp : goal.returns-in-Inp
returns-in-Inp g c = rw c.in-Inp.is (c.inp.ensures c.args.e)

pub returns-in-Ldq : goal.returns-in-Ldq
returns-in-Ldq g c = rw c.in-Ldq.is (c.ldq.ensures c.args.y)

pub returns-in-Lls : goal.returns-in-Lls
returns-in-Lls g c = rw c.in-Lls.is (c.lls.ensures c.args.e)

pub returns-in-Lrs : goal.returns-in-Lrs
returns-in-Lrs g c = rw c.in-Lrs.is (c.lrs.ensures c.args.e)

pub returns-in-Mpr : goal.returns-in-Mpr
returns-in-Mpr g c = rw c.in-Mpr.is (c.mpr.ensures c.args.y)

pub returns-in-Mpy : goal.returns-in-Mpy
returns-in-Mpy g c = rw c.in-Mpy.is (c.mpy.ensures c.args.y)

pub returns-in-Mpz : goal.returns-in-Mpz
returns-in-Mpz g c = rw c.in-Mpz.is (c.mpz.ensures c.args.y)

pub returns-in-Out : goal.returns-in-Out
returns-in-Out g c = rw c.in-Out.is (c.out.ensures c.args.e)

pub returns-in-Sto : goal.returns-in-Sto
returns-in-Sto g c = rw c.in-Sto.is (c.sto.ensures c.args.y)

pub returns-in-Stq : goal.returns-in-Stq
returns-in-Stq g c = rw c.in-Stq.is (c.stq.ensures c.args.y)

pub returns-in-Sub : goal.returns-in-Sub
returns-in-Sub g c = rw c.in-Sub.is (c.sub.ensures c.args.y)

pub returns-in-Suz : goal.returns-in-Suz
returns-in-Suz g c = rw c.in-Suz.is (c.suz.ensures c.args.y)

pub returns-in-Tix : goal.returns-in-Tix
returns-in-Tix g c = rw c.in-Tix.is (c.tix.ensures c.args.e)

pub returns-in-Tov : goal.returns-in-Tov
returns-in-Tov g c = rw c.in-Tov.is (c.tov.ensures c.args.y)

pub returns-in-Tra : goal.returns-in-Tra
returns-in-Tra g c = rw c.in-Tra.is (c.tra.ensures c.args.y)

pub returns-in-Tsq : goal.returns-in-Tsq
returns-in-Tsq g c = rw c.in-Tsq.is (c.tsq.ensures c.args.y)
