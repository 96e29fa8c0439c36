mod ClosedBit
