-- The rows shipped, as a person writes them (rules T30 to T37). Written by tools/table from samples/shipped-v1.table.txt.
-- Assumes nothing.
use Rattle.std.specs.Prelude.{[], ◌∷◌}
use Rattle.kinds.specs.Types.{u1, u2, u4, i1, i2, i4, f4, f8}
use Rattle.kinds.specs.Marks.{unmarked, ones, zeroes, minus2e10, least, seed}
use Rattle.table.specs.Rows.{Table}
use Rattle.shipped.specs.Words.{NamedBlock, block, two_levels, field, table_of}

abbrev pvtcartesian : NamedBlock
pvtcartesian =
    block "PVTCartesian" 4006 2
    (field "Mode" u1 14 0 unmarked
    ∷ field "Error" u1 15 0 unmarked
    ∷ field "X" f8 16 0 minus2e10
    ∷ field "Y" f8 24 0 minus2e10
    ∷ field "Z" f8 32 0 minus2e10
    ∷ field "Undulation" f4 40 0 minus2e10
    ∷ field "Vx" f4 44 0 minus2e10
    ∷ field "Vy" f4 48 0 minus2e10
    ∷ field "Vz" f4 52 0 minus2e10
    ∷ field "COG" f4 56 0 minus2e10
    ∷ field "RxClkBias" f8 60 0 minus2e10
    ∷ field "RxClkDrift" f4 68 0 minus2e10
    ∷ field "TimeSystem" u1 72 0 ones
    ∷ field "Datum" u1 73 0 ones
    ∷ field "NrSV" u1 74 0 ones
    ∷ field "WACorrInfo" u1 75 0 zeroes
    ∷ field "ReferenceID" u2 76 0 ones
    ∷ field "MeanCorrAge" u2 78 0 ones
    ∷ field "SignalInfo" u4 80 0 zeroes
    ∷ field "AlertFlag" u1 84 0 zeroes
    ∷ field "NrBases" u1 85 1 zeroes
    ∷ field "PPPInfo" u2 86 1 seed
    ∷ field "Latency" u2 88 2 ones
    ∷ field "HAccuracy" u2 90 2 ones
    ∷ field "VAccuracy" u2 92 2 ones
    ∷ field "Misc" u1 94 2 unmarked
    ∷ [])
    []

abbrev measepoch : NamedBlock
measepoch =
    two_levels "MeasEpoch" 4027 1
    (field "N1" u1 14 0 unmarked
    ∷ field "SB1Length" u1 15 0 unmarked
    ∷ field "SB2Length" u1 16 0 unmarked
    ∷ field "CommonFlags" u1 17 0 unmarked
    ∷ field "CumClkJumps" u1 18 1 unmarked
    ∷ [])
    (field "RxChannel" u1 0 0 unmarked
    ∷ field "Type" u1 1 0 unmarked
    ∷ field "SVID" u1 2 0 unmarked
    ∷ field "Misc" u1 3 0 unmarked
    ∷ field "CodeLSB" u4 4 0 unmarked
    ∷ field "Doppler" i4 8 0 least
    ∷ field "CarrierLSB" u2 12 0 unmarked
    ∷ field "CarrierMSB" i1 14 0 unmarked
    ∷ field "CN0" u1 15 0 ones
    ∷ field "LockTime" u2 16 0 ones
    ∷ field "ObsInfo" u1 18 0 unmarked
    ∷ field "N2" u1 19 0 unmarked
    ∷ [])
    (field "Type" u1 0 0 unmarked
    ∷ field "LockTime" u1 1 0 ones
    ∷ field "CN0" u1 2 0 ones
    ∷ field "OffsetsMSB" u1 3 0 unmarked
    ∷ field "CarrierMSB" i1 4 0 unmarked
    ∷ field "ObsInfo" u1 5 0 unmarked
    ∷ field "CodeOffsetLSB" u2 6 0 unmarked
    ∷ field "CarrierLSB" u2 8 0 unmarked
    ∷ field "DopplerOffsetLSB" u2 10 0 unmarked
    ∷ [])

abbrev basevectorcart : NamedBlock
basevectorcart =
    block "BaseVectorCart" 4043 0
    (field "N" u1 14 0 unmarked
    ∷ field "SBLength" u1 15 0 unmarked
    ∷ [])
    (field "nrSV" u1 0 0 unmarked
    ∷ field "Error" u1 1 0 unmarked
    ∷ field "Mode" u1 2 0 unmarked
    ∷ field "Misc" u1 3 0 unmarked
    ∷ field "DeltaX" f8 4 0 minus2e10
    ∷ field "DeltaY" f8 12 0 minus2e10
    ∷ field "DeltaZ" f8 20 0 minus2e10
    ∷ field "DeltaVx" f4 28 0 minus2e10
    ∷ field "DeltaVy" f4 32 0 minus2e10
    ∷ field "DeltaVz" f4 36 0 minus2e10
    ∷ field "Azimuth" u2 40 0 ones
    ∷ field "Elevation" i2 42 0 least
    ∷ field "ReferenceID" u2 44 0 unmarked
    ∷ field "CorrAge" u2 46 0 ones
    ∷ field "SignalInfo" u4 48 0 zeroes
    ∷ [])

abbrev poscovgeodetic : NamedBlock
poscovgeodetic =
    block "PosCovGeodetic" 5906 0
    (field "Mode" u1 14 0 unmarked
    ∷ field "Error" u1 15 0 unmarked
    ∷ field "Cov_latlat" f4 16 0 minus2e10
    ∷ field "Cov_lonlon" f4 20 0 minus2e10
    ∷ field "Cov_hgthgt" f4 24 0 minus2e10
    ∷ field "Cov_bb" f4 28 0 minus2e10
    ∷ field "Cov_latlon" f4 32 0 minus2e10
    ∷ field "Cov_lathgt" f4 36 0 minus2e10
    ∷ field "Cov_latb" f4 40 0 minus2e10
    ∷ field "Cov_lonhgt" f4 44 0 minus2e10
    ∷ field "Cov_lonb" f4 48 0 minus2e10
    ∷ field "Cov_hb" f4 52 0 minus2e10
    ∷ [])
    []

abbrev extevent : NamedBlock
extevent =
    block "ExtEvent" 5924 1
    (field "Source" u1 14 0 unmarked
    ∷ field "Polarity" u1 15 0 unmarked
    ∷ field "Offset" f4 16 0 unmarked
    ∷ field "RxClkBias" f8 20 0 minus2e10
    ∷ field "PVTAge" u2 28 1 unmarked
    ∷ [])
    []

abbrev atteuler : NamedBlock
atteuler =
    block "AttEuler" 5938 0
    (field "NrSV" u1 14 0 ones
    ∷ field "Error" u1 15 0 unmarked
    ∷ field "Mode" u2 16 0 unmarked
    ∷ field "Reserved" u2 18 0 unmarked
    ∷ field "Heading" f4 20 0 minus2e10
    ∷ field "Pitch" f4 24 0 minus2e10
    ∷ field "Roll" f4 28 0 minus2e10
    ∷ field "PitchDot" f4 32 0 minus2e10
    ∷ field "RollDot" f4 36 0 minus2e10
    ∷ field "HeadingDot" f4 40 0 minus2e10
    ∷ [])
    []

abbrev attcoveuler : NamedBlock
attcoveuler =
    block "AttCovEuler" 5939 0
    (field "Reserved" u1 14 0 unmarked
    ∷ field "Error" u1 15 0 unmarked
    ∷ field "Cov_HeadHead" f4 16 0 minus2e10
    ∷ field "Cov_PitchPitch" f4 20 0 minus2e10
    ∷ field "Cov_RollRoll" f4 24 0 minus2e10
    ∷ field "Cov_HeadPitch" f4 28 0 minus2e10
    ∷ field "Cov_HeadRoll" f4 32 0 minus2e10
    ∷ field "Cov_PitchRoll" f4 36 0 minus2e10
    ∷ [])
    []

abbrev endofatt : NamedBlock
endofatt =
    block "EndOfAtt" 5943 0
    []
    []

abbrev pub shipped : Table
shipped = table_of 1 (pvtcartesian ∷ measepoch ∷ basevectorcart ∷ poscovgeodetic ∷ extevent ∷ atteuler ∷ attcoveuler ∷ endofatt ∷ [])
